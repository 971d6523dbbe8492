-- The bindings of a run, one signal of the interface more.
use Rattle.std.proofs.Common.{◌≡◌, ◌+◌, ◌<◌, ℕ, suc, List, [], ◌∷◌, ◌++◌, length, map, take, get_or, sym, ap}
use Rattle.std.proofs.Common.{◌∙◌, arith}
use Rattle.std.proofs.lemmas.List.{take_more, map_push, length-take-le}
use Rattle.module_tree.specs.declared.source.InterfaceNode.{InterfaceNode}
use Rattle.module_tree.specs.Scopes.{Signal, interface_from, interface_signals}

abbrev pub signal_of : ℕ → InterfaceNode → Signal
signal_of n d = record { place = n; dir = d.dir; signal = d.signal }

interface_joined : (n : ℕ) (ds : List InterfaceNode) (d : InterfaceNode)
    → interface_from n (ds ++ d ∷ []) ≡ interface_from n ds ++ signal_of (n + length ds) d ∷ []
interface_joined n [] d =
    let here : n ≡ n + 0 = omega arith in
    ap (λ (k : ℕ). signal_of k d ∷ []) here
interface_joined n (e ∷ ds) d =
    let there : (n + 1) + length ds ≡ n + suc (length ds) = omega arith in
    ap (λ (ss : List Signal). signal_of n e ∷ ss) (interface_joined (n + 1) ds d
    ∙ ap (λ (k : ℕ). interface_from (n + 1) ds ++ signal_of k d ∷ []) there)

pub one_more : {B : Type 0} (f : Signal → B) (ds : List InterfaceNode) (i : ℕ) (d : InterfaceNode)
    (old new : List B) (b : B) → i < length ds → d ≡ get_or ds i d
    → old ≡ map f (interface_signals (take i ds)) → b ≡ f (signal_of i d) → new ≡ old ++ b ∷ []
    → new ≡ map f (interface_signals (take (i + 1) ds))
one_more {B} f ds i d old new b lt is before made pushed =
    let taken = length-take-le i ds (omega arith) in
    let size : 0 + length (take i ds) ≡ i = omega (arith, taken) in
    pushed ∙ (λ j. before j ++ made j ∷ [])
    ∙ sym (map_push f (interface_signals (take i ds)) (signal_of i d))
    ∙ ap (λ (k : ℕ). map f (interface_signals (take i ds) ++ signal_of k d ∷ [])) (sym size)
    ∙ ap (map f) (sym (interface_joined 0 (take i ds) d))
    ∙ ap (λ (xs : List InterfaceNode). map f (interface_signals xs))
    (ap (λ (e : InterfaceNode). take i ds ++ e ∷ []) is ∙ sym (take_more ds i d lt))
