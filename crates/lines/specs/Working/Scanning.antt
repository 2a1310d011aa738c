-- Scanning a text from the front.
--   front s, past s    the digits at the front of s, and what stands behind them
--   graft w ws         the bytes w before the words ws of a line
--   join us ws         the words us before the words ws of a line
--   cap                numbers from here on are not told apart
--   Passed t at n i   the digits from place `at` up to i spell n
--   NumberAt t at v e  the digits from place `at` on end at e and spell v
--   BadWords ws        there are no words, or one of them is no number
--   Bad s              the line at the front of s is missing, or one of its words is no number
--   Spaced, Ended s w r    the word w stands at the front of s, with a space or a line feed and then r behind it
--   Capped v w         the word w spells v, or both numbers are cap or more
--   Field s v k r      a number v and its stop byte k stand at the front of s, and then r
--   FieldAt t at f     of the number at place `at` of t: f is that number as a Field, or none where the line there is bad
use Rattle.std.specs.Prelude.{ℕ, ◌+◌, ◌*◌, ◌<◌, ◌≤◌, min, ◌≡◌, ◌⊎◌, true, false, cond, List, [], ◌∷◌, ◌++◌, length, get_or, drop, Option, None, Some}
use Rattle.lines.specs.declared.Taken.{Taken}
use Rattle.lines.specs.Meaning.Spelling.{words, behind, digit, numeral, onward, value}

unfoldable pub front : List ℕ → List ℕ
front [] = []
front (x ∷ s) = cond (digit x) (x ∷ front s) []

unfoldable pub past : List ℕ → List ℕ
past [] = []
past (x ∷ s) = cond (digit x) (past s) (x ∷ s)

abbrev pub graft : List ℕ → List (List ℕ) → List (List ℕ)
graft w [] = []
graft w (v ∷ vs) = (w ++ v) ∷ vs

abbrev pub join : List (List ℕ) → List (List ℕ) → List (List ℕ)
join us [] = []
join us (v ∷ vs) = us ++ (v ∷ vs)

abbrev pub cap : ℕ
cap = 1024

pub record NumberAt (t : List ℕ) (at v e : ℕ) : Type 0 where
  pub within : e ≤ length t
  pub size : e ≡ at + length (front (drop at t))
  pub rest : drop e t ≡ past (drop at t)
  pub capped : min v cap ≡ min (value (front (drop at t))) cap

abbrev pub BadWords : List (List ℕ) → Type 0
BadWords ws = (ws ≡ []) ⊎ ((k : ℕ) × (k < length ws) × (numeral (get_or ws k []) ≡ false))

abbrev pub Bad : List ℕ → Type 0
Bad s = BadWords (words s)

pub record Spaced (s w r : List ℕ) : Type 0 where
  pub number : numeral w ≡ true
  pub cuts : words s ≡ join (w ∷ []) (words r)
  pub rest : behind s ≡ behind r

pub record Ended (s w r : List ℕ) : Type 0 where
  pub number : numeral w ≡ true
  pub cuts : words s ≡ w ∷ []
  pub rest : behind s ≡ r

abbrev pub Capped : ℕ → List ℕ → Type 0
Capped v w = min v cap ≡ min (value w) cap

pub record Field (s : List ℕ) (v k : ℕ) (r : List ℕ) : Type 0 where
  pub stops : (k ≡ 32) ⊎ (k ≡ 10)
  pub spaced : k ≡ 32 → (w : List ℕ) × Spaced s w r × Capped v w
  pub ended : k ≡ 10 → (w : List ℕ) × Ended s w r × Capped v w

abbrev pub FieldAt : List ℕ → ℕ → Option Taken → Type 0
FieldAt t at None = Bad (drop at t)
FieldAt t at (Some n) = Field (drop at t) n.value n.stop (drop n.end t) × (n.end ≤ length t)

-- the digits from `at` up to i are passed, and n is what they spell
pub record Passed (t : List ℕ) (at n i : ℕ) : Type 0 where
  pub within : i ≤ length t
  pub few : n < 10 * cap
  pub size : i + length (front (drop i t)) ≡ at + length (front (drop at t))
  pub rest : past (drop i t) ≡ past (drop at t)
  pub capped : min (onward n (front (drop i t))) cap ≡ min (value (front (drop at t))) cap
