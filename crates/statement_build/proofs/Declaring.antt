-- One declaration more.
use Rattle.std.proofs.Common.{◌≡◌, ℕ, ◌+◌, ◌<◌, List, [], ◌∷◌, ◌++◌, length, map, take, get_or, refl, sym, ap, ◌∙◌}
use Rattle.std.proofs.Common.{min, arith}
use Rattle.std.specs.List.{range_with_len}
use Rattle.std.proofs.lemmas.List.{take_more, map_push, length-append, length-map, length-take}
use Rattle.module_tree.specs.declared.source.InterfaceNode.{InterfaceNode}
use Rattle.module_tree.specs.declared.source.SignalNode.{SignalNode}
use Rattle.module_tree.specs.declared.source.Part.{Part}
use Rattle.module_tree.specs.declared.source.Part.TheVariants as part
use Rattle.hh_term.specs.Kernel.{Body}
use Rattle.kernel_expand.specs.Expansion.{at_start, bodies_of, interface_signal}
use Rattle.kernel_expand.specs.Numbering.{Numbered, with_place, local_signal}
use Rattle.statement_build.specs.Building.{declared_all}
use Rattle.statement_build.specs.Declarations.{part_bodies, body_node, host_node}
use Rattle.statement_build.proofs.Walking.{range_more, declared_many, declared_more}

bodies_joined : (xs : List (Part ℕ)) (t : Part ℕ) → bodies_of (xs ++ t ∷ []) ≡ bodies_of xs ++ part_bodies t
bodies_joined [] t = refl
bodies_joined (part.Module m ∷ xs) t = bodies_joined xs t
bodies_joined (part.Body b ∷ xs) t = ap (λ bs. body_node b ∷ bs) (bodies_joined xs t)
bodies_joined (part.Host h ∷ xs) t = ap (λ bs. host_node h ∷ bs) (bodies_joined xs t)

pub bodies_more : (parts : List (Part ℕ)) (i : ℕ) (t : Part ℕ) → i < length parts → t ≡ get_or parts i t
    → bodies_of (take (i + 1) parts) ≡ bodies_of (take i parts) ++ part_bodies t
bodies_more parts i t lt is = ap bodies_of (take_more parts i t lt ∙ ap (λ u. take i parts ++ u ∷ [])
    (sym is)) ∙ bodies_joined (take i parts) t

starts_more : (ds : List InterfaceNode) (d : InterfaceNode) → at_start (ds ++ d ∷ [])
    ≡ with_place (interface_signal d) (at_start ds)
starts_more ds d =
    let signals = map_push interface_signal ds d in
    let many : length (ds ++ d ∷ []) ≡ length ds + 1 = length-append ds (d ∷ []) in
    let counted : 0 + length ds ≡ length (map interface_signal ds) =
    (let none : 0 + length ds ≡ length ds = omega arith in none) ∙ sym (length-map ds interface_signal) in
    let places : range_with_len 0 (length (ds ++ d ∷ [])) ≡ range_with_len 0 (length ds)
    ++ length (map interface_signal ds) ∷ [] =
    ap (range_with_len 0) many ∙ range_more 0 (length ds)
    ∙ ap (λ n. range_with_len 0 (length ds) ++ n ∷ []) counted in
    λ i. record { signals = signals i; sites = []; places = places i; traps = 0 }

pub start_more : (ds : List InterfaceNode) (i : ℕ) (d : InterfaceNode) (old new : Numbered)
    → i < length ds → d ≡ get_or ds i d → old ≡ at_start (take i ds)
    → new ≡ with_place (interface_signal d) old → new ≡ at_start (take (i + 1) ds)
start_more ds i d old new lt is before after = after ∙ ap (with_place (interface_signal d)) before
    ∙ sym (starts_more (take i ds) d)
    ∙ ap at_start (ap (λ u. take i ds ++ u ∷ []) is ∙ sym (take_more ds i d lt))

-- local signals, one after the other
pub declared_one_more : (ds : List SignalNode) (i : ℕ) (d : SignalNode) (n m o : Numbered) (xs ys : List ℕ) (x : ℕ)
    → i < length ds → d ≡ get_or ds i d
    → (xs ≡ range_with_len (length n.signals) i) × (m ≡ declared_all (take i ds) n) → x ≡ length m.signals
    → o ≡ with_place (local_signal d) m → ys ≡ xs ++ x ∷ []
    → (ys ≡ range_with_len (length n.signals) (i + 1)) × (o ≡ declared_all (take (i + 1) ds) n)
declared_one_more ds i d n m o xs ys x lt is before number after pushed =
    let many : length (take i ds) ≡ i = length-take i ds ∙ (let least : min i (length ds) ≡ i = omega arith in least) in
    let here : x ≡ length n.signals + i = number ∙ ap (λ (z : Numbered). length z.signals) before.1
    ∙ declared_many (take i ds) n ∙ ap (λ k. length n.signals + k) many in (
      pushed ∙ (λ j. before.0 j ++ here j ∷ []) ∙ sym (range_more (length n.signals) i),
      after ∙ ap (with_place (local_signal d)) before.1 ∙ sym (declared_more (take i ds) d n)
          ∙ ap (λ zs. declared_all zs n) (ap (λ u. take i ds ++ u ∷ []) is ∙ sym (take_more ds i d lt)),
    )
