-- Lists that grow at their ends.
use Rattle.std.proofs.Common.{◌≡◌, sym, ap, ◌∙◌, ℕ, suc, ◌+◌, ◌<◌, List, [], ◌∷◌, ◌++◌, length, get_or, take}
use Rattle.std.proofs.Common.{append-nil, append_assoc, arith}
use Rattle.std.proofs.lemmas.List.{take_more, length-take-le}
use Rattle.net_list.specs.declared.gate.NetGate.{NetGate}
use Rattle.net_list.specs.declared.record.NetEmit.{NetEmit}
use Rattle.net_readers.specs.Readers.{inputs_of, each_time, readers_from, emissions_from, Lists, Grows}

readers_append : (m g : ℕ) (xs : List NetGate) (y : NetGate)
    → readers_from m g (xs ++ y ∷ []) ≡ readers_from m g xs ++ each_time g (m + length xs) (inputs_of y)
readers_append m g [] y =
    let e : m ≡ m + 0 = omega arith in
    append-nil (each_time g m (inputs_of y)) ∙ ap (λ k. each_time g k (inputs_of y)) e
readers_append m g (x ∷ xs) y =
    let e : suc m + length xs ≡ m + suc (length xs) = omega arith in
    ap (λ ys. each_time g m (inputs_of x) ++ ys)
    (readers_append (suc m) g xs y
    ∙ ap (λ k. readers_from (suc m) g xs ++ each_time g k (inputs_of y)) e)
    ∙ sym (append_assoc (each_time g m (inputs_of x)) (readers_from (suc m) g xs)
    (each_time g (m + suc (length xs)) (inputs_of y)))

pub readers_more : (g : ℕ) (xs : List NetGate) (i : ℕ) (x : NetGate) → i < length xs → x ≡ get_or xs i x
    → readers_from 0 g (take i xs) ++ each_time g i (inputs_of x) ≡ readers_from 0 g (take (i + 1) xs)
readers_more g xs i x l read =
    let len : 0 + length (take i xs) ≡ i =
    let e = length-take-le i xs (omega (arith, l)) in omega (arith, e) in
    sym (ap (readers_from 0 g) (take_more xs i x l) ∙ readers_append 0 g (take i xs) (get_or xs i x)
    ∙ λ j. readers_from 0 g (take i xs) ++ each_time g (len j) (inputs_of (sym read j)))

emissions_append : (m s : ℕ) (xs : List NetEmit) (y : NetEmit)
    → emissions_from m s (xs ++ y ∷ []) ≡ emissions_from m s xs ++ each_time s (m + length xs) (y.signal ∷ [])
emissions_append m s [] y =
    let e : m ≡ m + 0 = omega arith in
    append-nil (each_time s m (y.signal ∷ [])) ∙ ap (λ k. each_time s k (y.signal ∷ [])) e
emissions_append m s (x ∷ xs) y =
    let e : suc m + length xs ≡ m + suc (length xs) = omega arith in
    ap (λ ys. each_time s m (x.signal ∷ []) ++ ys)
    (emissions_append (suc m) s xs y
    ∙ ap (λ k. emissions_from (suc m) s xs ++ each_time s k (y.signal ∷ [])) e)
    ∙ sym (append_assoc (each_time s m (x.signal ∷ [])) (emissions_from (suc m) s xs)
    (each_time s (m + suc (length xs)) (y.signal ∷ [])))

pub emissions_more : (s : ℕ) (xs : List NetEmit) (i : ℕ) (x : NetEmit) → i < length xs → x ≡ get_or xs i x
    → emissions_from 0 s (take i xs) ++ each_time s i (x.signal ∷ []) ≡ emissions_from 0 s (take (i + 1) xs)
emissions_more s xs i x l read =
    let len : 0 + length (take i xs) ≡ i =
    let e = length-take-le i xs (omega (arith, l)) in omega (arith, e) in
    sym (ap (emissions_from 0 s) (take_more xs i x l) ∙ emissions_append 0 s (take i xs) (get_or xs i x)
    ∙ λ j. emissions_from 0 s (take i xs) ++ each_time s (len j) ((sym read j).signal ∷ []))

pub lists_on : (rs bs : List (List ℕ)) (count : ℕ) (f g h : ℕ → List ℕ) → Lists rs count f → Grows rs bs g
    → ((n : ℕ) → f n ++ g n ≡ h n) → Lists bs count h
lists_on rs bs count f g h a b e = (
  b.count ∙ a.0,
  λ n l. b.each n (let k = a.0 in omega (arith, k, l)) ∙ ap (λ ys. ys ++ g n) (a.1 n l) ∙ e n,
)
