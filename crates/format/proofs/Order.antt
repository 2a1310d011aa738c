-- The numbers from 5 on, in their order, where none of the header applies.
use Prim.Native.Nat.{ℕ, ◌+◌, ◌-◌, ◌*◌, ◌<◌, ◌≤◌}
use mathlib.Core.Path.{◌≡◌, sym, ◌∙◌, ap, subst}
use mathlib.Core.Logic.{◌⊎◌, inl, inr, ⊎_elim}
use mathlib.Core.List.{List}
use native.Mathlib.Omega.{arith}
use lib.Dec.{lit≤}
use lib.ListN.{length}
use Rattle.numbers.proofs.Order.{stable}
use Rattle.std.specs.Prelude.{Result, Ok, Err}
use Rattle.memory.specs.declared.Refusal.{Refusal}
use Rattle.memory.specs.declared.Refusal.TheVariants.{NetOver}
use Rattle.memory.specs.Meaning.Refusals.{number_of, Free, First, Checked}
use Rattle.memory.proofs.Checked.{number_injective}
use Rattle.memory.proofs.Refusals.{Clean, clean_more}
use Rattle.memory.proofs.Table.{lowest_of_first}
use Rattle.netlist.specs.Meaning.Faults.{DesignFault}
use Rattle.netlist.proofs.Numbers.{Kind, three, five, nine, kind, design_numbered}
use Rattle.reader.specs.Meaning.Fields.{bit_at, field_at}
use Rattle.format.specs.Meaning.Format.{version_in, latches_in, count_in, nets_in, bits_in, bytes_in, decoded}
use Rattle.format.specs.Meaning.Version.{version_of}
use Rattle.format.specs.Meaning.Faults.{ImageFault, HeaderFault}
use Rattle.format.specs.Working.Scanning.{UnreadAbove, UnreadBelow}
use Rattle.format.proofs.Refusals.{small, refused, no_6, no_7, no_8, version_cases, within_limits, clean_5}
use Rattle.reader.proofs.Spelling.{zero_bits, field_some}
use Rattle.format.proofs.Versions.{one_version, version_1, version_cases_of}
use Rattle.format.proofs.Decoding.{Decodes, decodes, plain_nets}
use Rattle.format.proofs.Carried.{image_3, image_5, no_5}

pub loop_of : {b : List ℕ} → ImageFault b 9 → DesignFault (decoded b) 9
loop_of (ImageFault.loop i p q) = DesignFault.loop i p q

pub of_loop : {b : List ℕ} → DesignFault (decoded b) 9 → ImageFault b 9
of_loop (DesignFault.loop i p q) = ImageFault.loop i p q

-- where 2 does not apply, 19 applies exactly where the version is not the one that the design needs
module _ (b : List ℕ) (w : Decodes b (decoded b)) where
  pub needless : (ImageFault b 2 → ⊥) → (version_in b ≡ version_of (decoded b) → ⊥) → ImageFault b 19
  needless two z = go (version_cases two) (version_cases_of (decoded b))
    where
      go : (version_in b ≡ 1) ⊎ (version_in b ≡ 2) → (version_of (decoded b) ≡ 1) ⊎ (version_of (decoded b) ≡ 2) → ImageFault b 19
      go (inl v) o = absurd (z (v ∙ sym (one_version (decoded b) (λ k h. plain_nets b (decoded b) w v k (omega (arith, w.latches))))))
      go (inr v) (inl o) =
          ImageFault.needless v (λ k h. let p = version_1 (decoded b) o k (omega (arith, w.latches)) in (sym (w.enables k h) ∙ p.0, sym (w.clears k h) ∙ p.1))
      go (inr v) (inr o) = absurd (z (v ∙ sym o))

  pub not_needless : version_in b ≡ version_of (decoded b) → ImageFault b 19 → ⊥
  not_needless z (ImageFault.needless v g) =
      let o = one_version (decoded b) (λ k h. let q : k < latches_in b = omega (arith, w.latches) in (w.enables k q ∙ (g k q).0, w.clears k q ∙ (g k q).1)) in
      omega (arith, v, o, z)

  pub needed_version : (ImageFault b 2 → ⊥) → (ImageFault b 19 → ⊥) → version_in b ≡ version_of (decoded b)
  needed_version two none = stable _ _ (λ z. none (needless two z))

module _ (b : List ℕ) (head : Free (HeaderFault b)) where
  w : Decodes b (decoded b)
  w = decodes b (within_limits head)

  no_design_3 : DesignFault (decoded b) 3 → ⊥
  no_design_3 f = head 3 (image_3 b (decoded b) w f, lit≤ tt)

  -- where a call that looks for 3, 5 and 9 in the design does not say 5, 5 does not apply
  pub no_read : (r : Result (Unit {0}) Refusal) → Checked (DesignFault (decoded b)) r → (r ≡ Err NetOver → ⊥) → DesignFault (decoded b) 5 → ⊥
  no_read (Ok _) found q f = found 5 f
  no_read (Err r) found q f = go (kind found.applies)
    where
      go : Kind (decoded b) (number_of r) → ⊥
      go (three e g) = no_design_3 g
      go (five e g) = q (ap (λ (x : Refusal). Err x) (number_injective r NetOver e))
      go (nine e l) = (lowest_of_first design_numbered found).lower 5 (omega (arith, e)) f

  pub five_read : First (DesignFault (decoded b)) 5 → First (ImageFault b) 5
  five_read f = refused 5 (image_5 b (decoded b) w f.applies) (clean_5 head)

  pub five_unread : UnreadAbove b (nets_in b - 1) → First (ImageFault b) 5
  five_unread u = refused 5 (ImageFault.second u.cell u.within (omega (arith, u.above))) (clean_5 head)

  module _ (read : DesignFault (decoded b) 5 → ⊥) (low : UnreadBelow b (nets_in b - 1) (count_in b)) where
    clean_6 : Clean (ImageFault b) 6
    clean_6 = clean_more (ImageFault b) 5 (clean_5 head) (no_5 b (decoded b) w (λ i h k. omega (arith, low i h k)) read)

    pub six : UnreadAbove b 0 → First (ImageFault b) 6
    six u = refused 6 (ImageFault.unread u.cell u.within u.one_net (λ e. omega (arith, u.above))) clean_6

    module _ (zero : UnreadBelow b 0 (count_in b)) where
      clean_7 : Clean (ImageFault b) 7
      clean_7 = clean_more (ImageFault b) 6 clean_6 (no_6 (λ i h k. omega (arith, zero i h k)))

      pub seven : (field_at b (bits_in b) (8 * bytes_in b - bits_in b) ≡ 0 → ⊥) → First (ImageFault b) 7
      seven f =
          let r = field_some b (bits_in b) (8 * bytes_in b - bits_in b) f in
          refused 7 (ImageFault.pad (bits_in b + r.0) (omega arith) (omega (arith, r.1)) r.2) clean_7

      module _ (pad : field_at b (bits_in b) (8 * bytes_in b - bits_in b) ≡ 0) where
        no_pad : (i : ℕ) → bits_in b ≤ i → i < 8 * bytes_in b → bit_at b i ≡ 0
        no_pad i h l =
            let e : bits_in b + (i - bits_in b) ≡ i = omega arith in
            subst (λ (k : ℕ). bit_at b k ≡ 0) e (zero_bits b (bits_in b) (8 * bytes_in b - bits_in b) pad (i - bits_in b) (omega arith))

        clean_8 : Clean (ImageFault b) 8
        clean_8 = clean_more (ImageFault b) 7 clean_7 (no_7 no_pad)

        pub eight : bytes_in b < length b → First (ImageFault b) 8
        eight l = refused 8 (ImageFault.over l) clean_8

        module _ (l : length b ≤ bytes_in b) where
          clean_9 : Clean (ImageFault b) 9
          clean_9 = clean_more (ImageFault b) 8 clean_8 (no_8 l)

          -- what is found is then 9
          pub loops : {n : ℕ} → First (DesignFault (decoded b)) n → First (ImageFault b) n
          loops {n} f = go (kind f.applies)
            where
              go : Kind (decoded b) n → First (ImageFault b) n
              go (three e g) = absurd (no_design_3 g)
              go (five e g) = absurd (read g)
              go (nine e k) = rw e (refused 9 (of_loop (DesignFault.loop k.0 k.1 k.2)) clean_9)

          module _ (none : Free (DesignFault (decoded b))) where
            clean_10 : Clean (ImageFault b) 10
            clean_10 = clean_more (ImageFault b) 9 clean_9 (λ p. none 9 (loop_of p))

            -- no number lies between 9 and 19
            clean_19 : Clean (ImageFault b) 19
            clean_19 m h f = ⊎_elim (λ k. clean_10 m k f) (λ p. omega (arith, p.0)) (small f)

            pub nineteen : (version_in b ≡ version_of (decoded b) → ⊥) → First (ImageFault b) 19
            nineteen z = refused 19 (needless b w (clean_5 head 2 (omega arith)) z) clean_19

            pub no_fault : version_in b ≡ version_of (decoded b) → Free (ImageFault b)
            no_fault z m f = ⊎_elim (λ k. clean_10 m k f) (λ p. not_needless b w z p.1) (small f)
