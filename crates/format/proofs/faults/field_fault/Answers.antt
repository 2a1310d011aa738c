-- `field_fault`: one number after another.
use mathlib.Core.Path.{sym, ◌∙◌}
use native.Mathlib.Omega.{arith}
use Rattle.std.proofs.lemmas.Result.{err_from_is_err_and}
use Rattle.format.proofs.Headers.{nets_in_lem, bits_in_lem, bytes_in_lem}
use Rattle.format.proofs.Order.{no_read, five_read, five_unread, six, seven, eight, loops, nineteen, no_fault}
use Rattle.format.proofs.faults.field_fault.Goals as goal

pub returns-then-net_over : goal.returns-then-net_over
returns-then-net_over c = five_read _ c.requires.sound (rw c.if-net_over.ensures at c.requires.found)

pub returns-then-unread_above : goal.returns-then-unread_above
returns-then-unread_above c = five_unread _ c.requires.sound (rw (c.nets.ensures, nets_in_lem c.requires.spelled) at c.if-unread_above.ensures)

pub returns-then-unread_above-2 : goal.returns-then-unread_above-2
returns-then-unread_above-2 c =
    let p = c.requires in
    six _ p.sound (no_read _ p.sound _ p.found c.if-net_over.ensures) (rw (c.nets.ensures, nets_in_lem p.spelled) at c.if-unread_above.ensures) c.if-unread_above-2.ensures

pub returns-then-pad-ne0 : goal.returns-then-pad-ne0
returns-then-pad-ne0 c =
    let p = c.requires in
    let low = rw (c.nets.ensures, nets_in_lem p.spelled) at c.if-unread_above.ensures in
    let pad = rw (c.bits.ensures.value, c.bytes-bytes.ensures.value, bits_in_lem p.spelled) at c.pad.ensures in
    seven _ p.sound (no_read _ p.sound _ p.found c.if-net_over.ensures) low c.if-unread_above-2.ensures (λ e. c.if-pad-ne0.true (pad ∙ e))

pub returns-then-image-bytes : goal.returns-then-image-bytes
returns-then-image-bytes c =
    let p = c.requires in
    let low = rw (c.nets.ensures, nets_in_lem p.spelled) at c.if-unread_above.ensures in
    let pad = rw (c.bits.ensures.value, c.bytes-bytes.ensures.value, bits_in_lem p.spelled) at c.pad.ensures in
    eight _ p.sound (no_read _ p.sound _ p.found c.if-net_over.ensures) low c.if-unread_above-2.ensures (sym pad ∙ c.if-pad-ne0.false)
    (omega (arith, c.bytes-bytes.ensures.value, bytes_in_lem p.spelled))

pub returns-in_err-found : goal.returns-in_err-found
returns-in_err-found c =
    let p = c.requires in
    let low = rw (c.nets.ensures, nets_in_lem p.spelled) at c.if-unread_above.ensures in
    let pad = rw (c.bits.ensures.value, c.bytes-bytes.ensures.value, bits_in_lem p.spelled) at c.pad.ensures in
    let q = err_from_is_err_and c.from_residual.result c.from_residual.ensures.1 in
    rw (q.1, q.2)
    (loops _ p.sound (no_read _ p.sound _ p.found c.if-net_over.ensures) low c.if-unread_above-2.ensures (sym pad ∙ c.if-pad-ne0.false)
    (omega (arith, c.bytes-bytes.ensures.value, bytes_in_lem p.spelled)) (rw c.in_err-found.was at p.found))

pub returns-then-h-needed : goal.returns-then-h-needed
returns-then-h-needed c =
    let p = c.requires in
    let low = rw (c.nets.ensures, nets_in_lem p.spelled) at c.if-unread_above.ensures in
    let pad = rw (c.bits.ensures.value, c.bytes-bytes.ensures.value, bits_in_lem p.spelled) at c.pad.ensures in
    nineteen _ p.sound (no_read _ p.sound _ p.found c.if-net_over.ensures) low c.if-unread_above-2.ensures (sym pad ∙ c.if-pad-ne0.false)
    (omega (arith, c.bytes-bytes.ensures.value, bytes_in_lem p.spelled)) (rw c.in_ok-found.was at p.found)
    (λ e. c.if-h-needed.true (p.spelled.version ∙ e ∙ sym p.needed))

pub returns : goal.returns
returns c =
    let p = c.requires in
    let low = rw (c.nets.ensures, nets_in_lem p.spelled) at c.if-unread_above.ensures in
    let pad = rw (c.bits.ensures.value, c.bytes-bytes.ensures.value, bits_in_lem p.spelled) at c.pad.ensures in
    no_fault _ p.sound (no_read _ p.sound _ p.found c.if-net_over.ensures) low c.if-unread_above-2.ensures (sym pad ∙ c.if-pad-ne0.false)
    (omega (arith, c.bytes-bytes.ensures.value, bytes_in_lem p.spelled)) (rw c.in_ok-found.was at p.found)
    (sym p.spelled.version ∙ c.if-h-needed.false ∙ p.needed)
