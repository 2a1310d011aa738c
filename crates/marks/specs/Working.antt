-- Marks of the states that a design may be in, before and after it moves.
--   next_of nv next             the next state, by a table of nv vectors
--   Leading n nv next          the table next of n states and nv vectors is long enough, and leads to states
--   Source f n marks q         a marked state that f leads to q
--   Successors f n marks out   the marks out are those of the states to which f leads the marked states below n
use Rattle.std.specs.Prelude.{◌≡◌, Bool, true, false, List, ℕ, ◌<◌, ◌≤◌, ◌+◌, ◌*◌, length, get_or}

abbrev pub next_of : ℕ → List ℕ → ℕ → ℕ → ℕ
next_of nv next s v = get_or next (s * nv + v) 0

pub record Leading (n nv : ℕ) (next : List ℕ) : Type 0 where
  pub few : n ≤ 128
  pub few_vectors : nv ≤ 64
  pub long : n * nv ≤ length next
  pub stays : (i : ℕ) → i < n * nv → get_or next i 0 < n

pub record Source (f : ℕ → ℕ) (n : ℕ) (marks : List Bool) (q : ℕ) : Type 0 where
  pub state : ℕ
  pub under : state < n
  pub marked : get_or marks state false ≡ true
  pub leads : f state ≡ q

pub record Successors (f : ℕ → ℕ) (n : ℕ) (marks out : List Bool) : Type 0 where
  pub back : (q : ℕ) → q < n → get_or out q false ≡ true → Source f n marks q
  pub forth : (s : ℕ) → s < n → get_or marks s false ≡ true → get_or out (f s) false ≡ true
