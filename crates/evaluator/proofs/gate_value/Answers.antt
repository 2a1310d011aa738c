-- `gate_value`: by the case of the gate.
use mathlib.Core.Path.{◌≡◌, refl}
use borrow.Author.Rules.{rules}
use lib.ListN.{get_or}
use Rattle.netlist.specs.Meaning.Gates.{truth}
use Rattle.evaluator.proofs.Truth.{not_law, and_law, or_law, xor_law, nand_law, nor_law, xnor_law}
use Rattle.evaluator.proofs.gate_value.Goals as goal

pub returns-in-Buf : goal.returns-in-Buf
unfolding truth
returns-in-Buf c =
    let x : c.at.result ≡ get_or c.args.vals.now c.in-Buf.a 0 = search rules in
    rw (c.in-Buf.is, x) refl

pub returns-in-Not : goal.returns-in-Not
returns-in-Not c =
    let x : c.at-in-Not.result ≡ get_or c.args.vals.now c.in-Not.a 0 = search rules in
    rw (c.in-Not.is, x) (not_law _ _ (c.requires.bits _) (c.requires.bits _))

pub returns-in-And : goal.returns-in-And
returns-in-And c =
    let x : c.at-in-And.result ≡ get_or c.args.vals.now c.in-And.a 0 = search rules in
    let y : c.at-in-And-2.result ≡ get_or c.args.vals.now c.in-And.b 0 = search rules in
    rw (c.in-And.is, x, y) (and_law _ _ (c.requires.bits _) (c.requires.bits _))

pub returns-in-Or : goal.returns-in-Or
returns-in-Or c =
    let x : c.at-in-Or.result ≡ get_or c.args.vals.now c.in-Or.a 0 = search rules in
    let y : c.at-in-Or-2.result ≡ get_or c.args.vals.now c.in-Or.b 0 = search rules in
    rw (c.in-Or.is, x, y) (or_law _ _ (c.requires.bits _) (c.requires.bits _))

pub returns-in-Xor : goal.returns-in-Xor
returns-in-Xor c =
    let x : c.at-in-Xor.result ≡ get_or c.args.vals.now c.in-Xor.a 0 = search rules in
    let y : c.at-in-Xor-2.result ≡ get_or c.args.vals.now c.in-Xor.b 0 = search rules in
    rw (c.in-Xor.is, x, y) (xor_law _ _ (c.requires.bits _) (c.requires.bits _))

pub returns-in-Nand : goal.returns-in-Nand
returns-in-Nand c =
    let x : c.at-in-Nand.result ≡ get_or c.args.vals.now c.in-Nand.a 0 = search rules in
    let y : c.at-in-Nand-2.result ≡ get_or c.args.vals.now c.in-Nand.b 0 = search rules in
    rw (c.in-Nand.is, x, y) (nand_law _ _ (c.requires.bits _) (c.requires.bits _))

pub returns-in-Nor : goal.returns-in-Nor
returns-in-Nor c =
    let x : c.at-in-Nor.result ≡ get_or c.args.vals.now c.in-Nor.a 0 = search rules in
    let y : c.at-in-Nor-2.result ≡ get_or c.args.vals.now c.in-Nor.b 0 = search rules in
    rw (c.in-Nor.is, x, y) (nor_law _ _ (c.requires.bits _) (c.requires.bits _))

pub returns-in-Xnor : goal.returns-in-Xnor
returns-in-Xnor c =
    let x : c.at-in-Xnor.result ≡ get_or c.args.vals.now c.in-Xnor.a 0 = search rules in
    let y : c.at-in-Xnor-2.result ≡ get_or c.args.vals.now c.in-Xnor.b 0 = search rules in
    rw (c.in-Xnor.is, x, y) (xnor_law _ _ (c.requires.bits _) (c.requires.bits _))
