-- What reads what in nets. (This project's own.)
use Rattle.std.specs.Prelude.{◌≡◌, ℕ, suc, ◌<◌, ◌==◌, cond, List, [], ◌∷◌, ◌++◌, length, get_or}
use Rattle.std.specs.List.{flat_map}
use Rattle.net_list.specs.declared.gate.NetGate.{NetGate}
use Rattle.net_list.specs.declared.gate.NetGate.TheVariants as gate
use Rattle.net_list.specs.declared.record.NetEmit.{NetEmit}

-- the gates that a gate's equation reads, as often as it does
abbrev pub inputs_of : NetGate → List ℕ
inputs_of (gate.Not g) = g ∷ []
inputs_of (gate.And gs) = gs
inputs_of (gate.Or gs) = gs
inputs_of _ = []

-- one x for each time that g stands in a list
abbrev pub each_time : ℕ → ℕ → List ℕ → List ℕ
each_time g x ns = flat_map (λ n. cond (n == g) (x ∷ []) []) ns

-- the gates that read g, in order, as often as each does; the first of these gates has this number
abbrev pub readers_from : ℕ → ℕ → List NetGate → List ℕ
readers_from n g [] = []
readers_from n g (x ∷ xs) = each_time g n (inputs_of x) ++ readers_from (suc n) g xs

-- the emissions of signal s, in order; the first of these emissions has this number
abbrev pub emissions_from : ℕ → ℕ → List NetEmit → List ℕ
emissions_from n s [] = []
emissions_from n s (e ∷ es) = each_time s n (e.signal ∷ []) ++ emissions_from (suc n) s es

-- in each list up to the end stand these items
abbrev pub Lists : List (List ℕ) → ℕ → (ℕ → List ℕ) → Type 0
Lists lists count f = (length lists ≡ count) × ((n : ℕ) → n < count → get_or lists n [] ≡ f n)

-- each list got these items at its end
pub record Grows (before after : List (List ℕ)) (more : ℕ → List ℕ) : Type 0 where
  pub count : length after ≡ length before
  pub each : (n : ℕ) → n < length before → get_or after n [] ≡ get_or before n [] ++ more n
