-- `put_image`: the writer has room.
use Rattle.converter.proofs.Images.{never_refused}
use Rattle.converter.proofs.put_image.Goals as goal

pub unwrap-requires : goal.unwrap-requires
unwrap-requires c = never_refused c.write.result c.requires.0 c.requires.1 c.write.ensures
