-- `header_fault`: one number after another.
use mathlib.Core.Path.{refl, ◌∙◌}
use mathlib.Core.Bool.{false≢true}
use native.Mathlib.Omega.{arith}
use lib.Dec.{lit≤}
use Rattle.format.specs.Meaning.Faults.{ImageFault}
use Rattle.format.proofs.Refusals.{clean_1, clean_2, clean_3, clean_4, head, no_head, no_4}
use Rattle.format.proofs.Headers.{bytes_in_lem, over_3, under_3}
use Rattle.format.proofs.faults.header_fault.Goals as goal

pub returns-then-bytes-lt4 : goal.returns-then-bytes-lt4
returns-then-bytes-lt4 c = λ b l w. head 1 (lit≤ tt) (ImageFault.short (rw l c.if-bytes-lt4.true)) clean_1

pub returns-then-other_version : goal.returns-then-other_version
returns-then-other_version c = λ b l w. let v = c.if-other_version.ensures in head 2 (lit≤ tt) (ImageFault.version (λ e. v.0 (w.version ∙ e)) (λ e. v.1 (w.version ∙ e))) (clean_2 (rw l c.if-bytes-lt4.false))

pub returns-then-over_limit : goal.returns-then-over_limit
returns-then-over_limit c = λ b l w.
    let v = c.if-other_version.ensures in
    let o = rw c.sizes.ensures at c.if-over_limit.ensures in
    head 3 (lit≤ tt) (over_3 w (o.0 refl)) (clean_3 (rw l c.if-bytes-lt4.false) (rw w.version at v))

pub returns-then-bytes : goal.returns-then-bytes
returns-then-bytes c = λ b l w.
    let v = c.if-other_version.ensures in
    let o = rw c.sizes.ensures at c.if-over_limit.ensures in
    head 4 (lit≤ tt) (ImageFault.ends (omega (arith, l, c.if-bytes.true, c.bytes.ensures.value, bytes_in_lem w)))
    (clean_4 (rw l c.if-bytes-lt4.false) (rw w.version at v) (under_3 w (λ x. false≢true (o.1 x))))

pub returns : goal.returns
returns c = λ b l w.
    let v = c.if-other_version.ensures in
    let o = rw c.sizes.ensures at c.if-over_limit.ensures in
    no_head (clean_4 (rw l c.if-bytes-lt4.false) (rw w.version at v) (under_3 w (λ x. false≢true (o.1 x))))
    (no_4 (omega (arith, l, c.if-bytes.false, c.bytes.ensures.value, bytes_in_lem w)))
