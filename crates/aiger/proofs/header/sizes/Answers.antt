-- `sizes`: the mark, and five sizes.
use Prim.Native.Nat.{ℕ}
use mathlib.Core.Path.{◌≡◌, refl}
use mathlib.Core.Bool.{true}
use mathlib.Core.List.{List, [], ◌∷◌}
use native.Mathlib.Omega.{arith}
use Rattle.lines.specs.Meaning.Spelling.{numeral}
use Rattle.lines.proofs.Rows.{led_ends, all_more}
use Rattle.aiger.proofs.Headers.{is_marked, not_marked, unmarked, headed_none, headed_more, no_size, no_last, header_sized}
use Rattle.aiger.proofs.header.sizes.Goals as goal

pub returns-then-not-starts_with : goal.returns-then-not-starts_with
returns-then-not-starts_with c = unmarked c.args.text.now (not_marked c.args.text.now c.starts_with.result c.starts_with.ensures.value c.if-not-starts_with.true)

pub returns-in_err-m : goal.returns-in_err-m
returns-in_err-m c =
    let t = c.args.text.now in
    let none = headed_none t (is_marked t c.starts_with.result c.starts_with.ensures.value c.if-not-starts_with.false) in
    rw c.from_residual.ensures (no_size t 4 none (omega arith) c.in_err-m.ensures)

pub returns-in_err-i : goal.returns-in_err-i
returns-in_err-i c =
    let t = c.args.text.now in
    let none = headed_none t (is_marked t c.starts_with.result c.starts_with.ensures.value c.if-not-starts_with.false) in
    let m = headed_more none c.in_ok-m.ensures.0 c.in_ok-m.ensures.2 in
    rw c.from_residual-in_err-i.ensures (no_size t c.in_ok-m.m.end m.1 (omega arith) c.in_err-i.ensures)

pub returns-in_err-l : goal.returns-in_err-l
returns-in_err-l c =
    let t = c.args.text.now in
    let none = headed_none t (is_marked t c.starts_with.result c.starts_with.ensures.value c.if-not-starts_with.false) in
    let m = headed_more none c.in_ok-m.ensures.0 c.in_ok-m.ensures.2 in
    let i = headed_more m.1 c.in_ok-i.ensures.0 c.in_ok-i.ensures.2 in
    rw c.from_residual-in_err-l.ensures (no_size t c.in_ok-i.i.end i.1 (omega arith) c.in_err-l.ensures)

pub returns-in_err-o : goal.returns-in_err-o
returns-in_err-o c =
    let t = c.args.text.now in
    let none = headed_none t (is_marked t c.starts_with.result c.starts_with.ensures.value c.if-not-starts_with.false) in
    let m = headed_more none c.in_ok-m.ensures.0 c.in_ok-m.ensures.2 in
    let i = headed_more m.1 c.in_ok-i.ensures.0 c.in_ok-i.ensures.2 in
    let l = headed_more i.1 c.in_ok-l.ensures.0 c.in_ok-l.ensures.2 in
    rw c.from_residual-in_err-o.ensures (no_size t c.in_ok-l.l.end l.1 (omega arith) c.in_err-o.ensures)

pub returns-in_err-a : goal.returns-in_err-a
returns-in_err-a c =
    let t = c.args.text.now in
    let none = headed_none t (is_marked t c.starts_with.result c.starts_with.ensures.value c.if-not-starts_with.false) in
    let m = headed_more none c.in_ok-m.ensures.0 c.in_ok-m.ensures.2 in
    let i = headed_more m.1 c.in_ok-i.ensures.0 c.in_ok-i.ensures.2 in
    let l = headed_more i.1 c.in_ok-l.ensures.0 c.in_ok-l.ensures.2 in
    let o = headed_more l.1 c.in_ok-o.ensures.0 c.in_ok-o.ensures.2 in
    rw c.from_residual-in_err-a.ensures (no_last t c.in_ok-o.o.end o.1 refl c.in_err-a.ensures)

pub returns : goal.returns
returns c =
    let t = c.args.text.now in
    let none = headed_none t (is_marked t c.starts_with.result c.starts_with.ensures.value c.if-not-starts_with.false) in
    let m = headed_more none c.in_ok-m.ensures.0 c.in_ok-m.ensures.2 in
    let i = headed_more m.1 c.in_ok-i.ensures.0 c.in_ok-i.ensures.2 in
    let l = headed_more i.1 c.in_ok-l.ensures.0 c.in_ok-l.ensures.2 in
    let o = headed_more l.1 c.in_ok-o.ensures.0 c.in_ok-o.ensures.2 in
    let a = c.in_ok-a.ensures.0.ended c.in_ok-a.ensures.2 in
    let w = led_ends o.1.led a.1 in
    let n = all_more (λ (w : List ℕ). numeral w ≡ true) (m.0 ∷ i.0 ∷ l.0 ∷ o.0 ∷ []) a.0 o.1.numbers a.1.number in
    rw (c.from.ensures, c.from-2.ensures, c.from-3.ensures, c.from-4.ensures, c.from-5.ensures)
    (header_sized c.in_ok-m.m c.in_ok-i.i c.in_ok-l.l c.in_ok-o.o c.in_ok-a.a m.0 i.0 l.0 o.0 a.0 w.0 n m.2 i.2 l.2 o.2 a.2 w.1 c.in_ok-a.ensures.1)
