-- Laws on lines that are scanned word by word.
use Prim.Native.Nat.{ℕ, zero, suc, ◌+◌, ◌<◌, ◌≤◌, min}
use mathlib.Core.Path.{◌≡◌, refl, sym, ◌∙◌, ap, subst}
use mathlib.Core.Logic.{◌⊎◌, inl, inr, ⊎_elim}
use mathlib.Core.Bool.{true, false}
use mathlib.Core.List.{List, [], ◌∷◌, ◌++◌, append_assoc}
use native.Mathlib.Omega.{arith}
use native.Mathlib.Decide.{ℕ_discrete, dec_lt}
use lib.ListN.{length, get_or, set, drop, length-append, length-set, get_or-append, get_or-eq_default}
use lib.Seq.{get_or-set_same, get_or-set_other, get_or-append-add, get_or-append_seam}
use Rattle.std.specs.Prelude.{Some}
use Rattle.lines.specs.Meaning.Spelling.{words, behind, numeral, onward, value}
use Rattle.lines.specs.Working.Scanning.{join, cap, BadWords, Bad, Spaced, Ended, Capped, Field}
use Rattle.lines.specs.Working.Rows.{Fine, RowFault, Numbered, RowAt}

-- the words us stand at the front of s, with spaces behind them, and then r
pub record Led (s : List ℕ) (us : List (List ℕ)) (r : List ℕ) : Type 0 where
  pub cuts : words s ≡ join us (words r)
  pub rest : behind s ≡ behind r

pub led_none : (s : List ℕ) → Led s [] s
led_none s = record { cuts = go (words s); rest = refl }
  where
    go : (ws : List (List ℕ)) → ws ≡ join [] ws
    go [] = refl
    go (v ∷ vs) = refl

module _ {s r : List ℕ} {us : List (List ℕ)} (l : Led s us r) where
  pub led_more : {w q : List ℕ} → Spaced r w q → Led s (us ++ (w ∷ [])) q
  led_more {w} {q} p = record { cuts = l.cuts ∙ ap (join us) p.cuts ∙ go (words q); rest = l.rest ∙ p.rest }
    where
      go : (ws : List (List ℕ)) → join us (join (w ∷ []) ws) ≡ join (us ++ (w ∷ [])) ws
      go [] = refl
      go (v ∷ vs) = sym (append_assoc us (w ∷ []) (v ∷ vs))

  -- a bad word behind the words us
  pub led_broken : Bad r → (words s ≡ []) ⊎ ((k : ℕ) × (length us ≤ k) × (k < length (words s)) × (numeral (get_or (words s) k []) ≡ false))
  led_broken b = rw l.cuts (go (words r) b)
    where
      go : (ws : List (List ℕ)) → BadWords ws → (join us ws ≡ []) ⊎ ((k : ℕ) × (length us ≤ k) × (k < length (join us ws)) × (numeral (get_or (join us ws) k []) ≡ false))
      go [] b = inl refl
      go (v ∷ vs) (inl e) = absurd (let z : ◌≡◌ {A = ℕ} 0 1 = cc in omega arith)
      go (v ∷ vs) (inr k) = inr (length us + k.0, omega arith, omega (arith, length-append us (v ∷ vs), k.1), rw (get_or-append-add us (v ∷ vs) k.0 []) k.2)

  -- a line at fault behind the words us
  pub led_fault : {m : ℕ} → RowFault m (words r) → RowFault m (words s)
  led_fault {m} f = rw l.cuts (go (words r) f)
    where
      go : (ws : List (List ℕ)) → RowFault m ws → RowFault m (join us ws)
      go [] (inl b) = inl (inl refl)
      go [] (inr (inl h)) = absurd (omega arith)
      go [] (inr (inr i)) = absurd (omega (arith, i.1))
      go (v ∷ vs) (inl (inl e)) = absurd (let z : ◌≡◌ {A = ℕ} 0 1 = cc in omega arith)
      go (v ∷ vs) (inl (inr k)) = inl (inr (length us + k.0, omega (arith, length-append us (v ∷ vs), k.1), rw (get_or-append-add us (v ∷ vs) k.0 []) k.2))
      go (v ∷ vs) (inr (inl h)) = inr (inl (omega (arith, length-append us (v ∷ vs), h)))
      go (v ∷ vs) (inr (inr i)) = inr (inr (length us + i.0, omega (arith, length-append us (v ∷ vs), i.1), rw (get_or-append-add us (v ∷ vs) i.0 []) i.2))

  pub led_ends : {w q : List ℕ} → Ended r w q → (words s ≡ us ++ (w ∷ [])) × (behind s ≡ q)
  led_ends p = (l.cuts ∙ rw p.cuts, l.rest ∙ p.rest)

  -- there are more words than these, or none
  pub led_long : (n : ℕ) → n ≤ length us → (words s ≡ []) ⊎ (n < length (words s))
  led_long n h = rw l.cuts (go (words r))
    where
      go : (ws : List (List ℕ)) → (join us ws ≡ []) ⊎ (n < length (join us ws))
      go [] = inl refl
      go (v ∷ vs) = inr (omega (arith, length-append us (v ∷ vs)))

-- one number more
pub fine_none : (m : ℕ) → Fine m []
fine_none m i h = absurd (omega arith)

pub all_more : (P : List ℕ → Type 0) (us : List (List ℕ)) (w : List ℕ) → ((i : ℕ) → i < length us → P (get_or us i [])) → P w
    → (i : ℕ) → i < length (us ++ (w ∷ [])) → P (get_or (us ++ (w ∷ [])) i [])
all_more P us w f p i l = go (ℕ_discrete i (length us))
  where
    go : Dec (i ≡ length us) → P (get_or (us ++ (w ∷ [])) i [])
    go (yes q) = subst P (sym (ap (λ (j : ℕ). get_or (us ++ (w ∷ [])) j []) q ∙ get_or-append_seam us w [] [])) p
    go (no q) =
        let k : i < length us = omega (arith, length-append us (w ∷ [])) in
        subst P (sym (get_or-append us (w ∷ []) [] i k)) (f i k)

pub fine_more : (m : ℕ) (us : List (List ℕ)) (w : List ℕ) → Fine m us → numeral w ≡ true → value w ≤ m → Fine m (us ++ (w ∷ []))
fine_more m us w f e h = all_more (λ (v : List ℕ). (numeral v ≡ true) × (value v ≤ m)) us w f (e, h)

exact : (v x m : ℕ) → min v cap ≡ min x cap → v ≤ m → m < cap → v ≡ x
exact v x m e h l = omega arith

-- n numbers up to m stand at the front of s, and r behind them; l holds them
pub record Rowed (m : ℕ) (s r : List ℕ) (n : ℕ) (l : List ℕ) : Type 0 where
  pub passed : List (List ℕ)
  pub led : Led s passed r
  pub count : length passed ≡ n
  pub room : length l ≡ 3
  pub fine : Fine m passed
  pub numbered : Numbered l passed

pub rowed_none : (m : ℕ) (s : List ℕ) → Rowed m s s 0 (0 ∷ 0 ∷ 0 ∷ [])
unfolding onward
rowed_none m s = record { passed = []; led = led_none s; count = refl; room = refl; fine = fine_none m; numbered = zeros }
  where
    zeros : Numbered (0 ∷ 0 ∷ 0 ∷ []) []
    zeros zero = refl
    zeros (suc zero) = refl
    zeros (suc (suc zero)) = refl
    zeros (suc (suc (suc i))) = refl

module _ {m : ℕ} {s r q : List ℕ} {n v k : ℕ} {l : List ℕ} (p : Rowed m s r n l) (f : Field r v k q) (small : m < cap) (few : n < 3) (low : v ≤ m) where
  more_numbered : (w : List ℕ) → v ≡ value w → Numbered (set l n v) (p.passed ++ (w ∷ []))
  more_numbered w e i = go (ℕ_discrete i n) (dec_lt i n)
    where
      go : Dec (i ≡ n) → Dec (i < n) → get_or (set l n v) i 0 ≡ value (get_or (p.passed ++ (w ∷ [])) i [])
      go (yes h) b =
          let room : i < length l = omega (arith, p.room) in
          rw (← h) (get_or-set_same l i v 0 room ∙ e ∙ ap value (sym (rw (h, ← p.count) (get_or-append_seam p.passed w [] []))))
      go (no h) (yes b) =
          let k : i < length p.passed = omega (arith, p.count) in
          rw (get_or-set_other l n i v 0 h, get_or-append p.passed (w ∷ []) [] i k) (p.numbered i)
      go (no h) (no b) =
          let k : length p.passed ≤ i = omega (arith, p.count) in
          let j : length (p.passed ++ (w ∷ [])) ≤ i = omega (arith, length-append p.passed (w ∷ []), p.count) in
          rw (get_or-set_other l n i v 0 h, get_or-eq_default (p.passed ++ (w ∷ [])) [] {n = i} j) (p.numbered i ∙ ap value (get_or-eq_default p.passed [] {n = i} k))

  grown : (w : List ℕ) → numeral w ≡ true → Capped v w → (Fine m (p.passed ++ (w ∷ []))) × (length (p.passed ++ (w ∷ [])) ≡ n + 1) × Numbered (set l n v) (p.passed ++ (w ∷ []))
  grown w e c =
      let x = exact v (value w) m c low small in
      (fine_more m p.passed w p.fine e (omega arith), omega (arith, length-append p.passed (w ∷ []), p.count), more_numbered w x)

  pub rowed_more : k ≡ 32 → Rowed m s q (n + 1) (set l n v)
  rowed_more e =
      let w = f.spaced e in
      let g = grown w.0 w.1.number w.2 in
      record { passed = p.passed ++ (w.0 ∷ []); led = led_more p.led w.1; count = g.1; room = simp length-set p.room; fine = g.0; numbered = g.2 }

  pub rowed_ends : (t : List ℕ) (at end : ℕ) → s ≡ drop at t → q ≡ drop end t → end ≤ length t → k ≡ 10 → RowAt m t at (Some (record { count = n + 1; numbers = set l n v; end = end }))
  rowed_ends t at end es eq h e =
      let w = f.ended e in
      let g = grown w.0 w.1.number w.2 in
      let x = led_ends p.led w.1 in
      rw (← es) (record { size = rw x.0 (sym g.1); any = omega arith; few = omega arith; fine = rw x.0 g.0; numbered = rw x.0 g.2 }, x.1 ∙ eq, h)

-- the line goes on behind three numbers
pub rowed_long : {m : ℕ} {s r l : List ℕ} → Rowed m s r 3 l → RowFault m (words s)
rowed_long p = ⊎_elim (λ b. inl (inl b)) (λ x. inr (inl x)) (led_long p.led 3 (omega (arith, p.count)))
