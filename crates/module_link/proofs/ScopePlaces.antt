-- The signals in scope at a place of a module are signals of the module, each by its place.
use Rattle.std.proofs.Common.{true, ◌≡◌, ℕ, suc, ◌+◌, List, [], ◌∷◌, ◌++◌, length, Some}
use Rattle.std.proofs.Common.{refl, sym, ap, subst, ◌∙◌, arith, append_assoc, append-nil, length-append}
use Rattle.std.specs.Prelude.{slice_get}
use Rattle.std.specs.List.{AllByRecursion, flat_map}
use Rattle.std.proofs.lemmas.List.Concat.{flat_map-append}
use Rattle.hh_base.specs.declared.value.Dir.TheVariants as dir
use Rattle.module_tree.specs.declared.source.SignalNode.{SignalNode}
use Rattle.module_tree.specs.declared.source.InterfaceNode.{InterfaceNode}
use Rattle.module_tree.specs.declared.source.ModuleNode.{ModuleNode}
use Rattle.module_tree.specs.Scopes.{Signal, InScope, Declared, local_signals, interface_from}
use Rattle.module_tree.specs.Scopes.{interface_signals}
use Rattle.module_tree.specs.Parts.{Placed, Walked, parts_of, joined}
use Rattle.module_tree.specs.SourceForms.{fits_block}
use Rattle.module_tree.specs.LinkedFacts.{locals_of}
use Rattle.link_faults.specs.Named.{Name}
use Rattle.module_link.proofs.Lists.{all_split, all_append, behind}
use Rattle.module_link.proofs.SourceWalks.{Closed, blocks_keep, is_written}

abbrev pub locals_in : List (Placed Name) → List SignalNode
locals_in = flat_map (λ (p : Placed Name). locals_of p.part)

-- the signals of a module, by their places
abbrev pub signals_of : ModuleNode Name → List Signal
signals_of m = interface_signals m.interface ++ local_signals (length m.interface) (locals_in (parts_of m))

abbrev pub HasPlace : List Signal → Signal → Type 0
HasPlace all s = slice_get all s.place ≡ Some s

-- each signal of the scope is that of its place
abbrev pub IsPlaced : List Signal → InScope → Type 0
IsPlaced all c = AllByRecursion (HasPlace all) c.signals

-- ---- signals that are numbered from a place

abbrev IsNumbered : ℕ → List Signal → Type 0
IsNumbered n [] = Unit {0}
IsNumbered n (s ∷ others) = (s.place ≡ n) × IsNumbered (n + 1) others

locals_numbered : (n : ℕ) (signals : List SignalNode) → IsNumbered n (local_signals n signals)
locals_numbered n [] = tt
locals_numbered n (s ∷ others) = (refl, locals_numbered (n + 1) others)

interface_numbered : (n : ℕ) (ds : List InterfaceNode) → IsNumbered n (interface_from n ds)
interface_numbered n [] = tt
interface_numbered n (d ∷ others) = (refl, interface_numbered (n + 1) others)

numbered_placed : (all before signals after : List Signal) → all ≡ before ++ (signals ++ after)
    → IsNumbered (length before) signals → AllByRecursion (HasPlace all) signals
numbered_placed all before [] after e h = tt
numbered_placed all before (s ∷ others) after e h = (
  ap (slice_get all) h.0 ∙ ap (λ xs. slice_get xs (length before)) e ∙ behind before s (others ++ after),
  numbered_placed all (before ++ s ∷ []) others after (e ∙ sym (append_assoc before (s ∷ [])
      (others ++ after))) (subst (λ n. IsNumbered n others) (sym (length-append before (s ∷ []))) h.1),
)

locals_append : (n : ℕ) (xs ys : List SignalNode)
    → local_signals n (xs ++ ys) ≡ local_signals n xs ++ local_signals (n + length xs) ys
locals_append n [] ys =
    let same : n ≡ n + 0 = omega arith in
    ap (λ (k : ℕ). local_signals k ys) same
locals_append n (x ∷ xs) ys =
    let same : (n + 1) + length xs ≡ n + length (x ∷ xs) = omega arith in
    ap (λ (others : List Signal). record { place = n; dir = dir.Local; signal = x } ∷ others)
    (locals_append (n + 1) xs ys ∙ ap (λ (k : ℕ). local_signals (n + 1) xs ++ local_signals k ys) same)

interface_length : (n : ℕ) (ds : List InterfaceNode) → length (interface_from n ds) ≡ length ds
interface_length n [] = refl
interface_length n (d ∷ ds) = ap suc (interface_length (n + 1) ds)

-- ---- a piece of the text

record InPlace (c : InScope) (b : Declared) (w : Walked Name) : Type 0 where
  counted : w.after.signals ≡ b.signals + length (locals_in w.parts)
  placed : (all : List Signal) → IsPlaced all c
      → AllByRecursion (HasPlace all) (local_signals b.signals (locals_in w.parts))
      → AllByRecursion (λ (p : Placed Name). IsPlaced all p.scope) w.parts

locals_joined : (ps qs : List (Placed Name)) → locals_in (ps ++ qs) ≡ locals_in ps ++ locals_in qs
locals_joined = flat_map-append (λ (p : Placed Name). locals_of p.part)

nothing_declared : (n : ℕ) (signals : List SignalNode) → signals ≡ [] → n ≡ n + length (signals ++ [])
nothing_declared n signals e =
    let none : length (signals ++ []) ≡ 0 = ap (λ (xs : List SignalNode). length (xs ++ [])) e in
    omega (arith, none)

counted_behind : (n m k : ℕ) (xs ys zs : List SignalNode) → zs ≡ xs ++ ys → m ≡ n + length xs
    → k ≡ m + length ys → k ≡ n + length zs
counted_behind n m k xs ys zs joined first second =
    let sum : length zs ≡ length xs + length ys = ap length joined ∙ length-append xs ys in
    omega (arith, sum, first, second)

both_placed : (all : List Signal) (n m : ℕ) (xs ys zs : List SignalNode) → zs ≡ xs ++ ys → m ≡ n + length xs
    → AllByRecursion (HasPlace all) (local_signals n zs)
    → AllByRecursion (HasPlace all) (local_signals n xs) × AllByRecursion (HasPlace all) (local_signals m ys)
both_placed all n m xs ys zs joined first h =
    let q = all_split (HasPlace all) (local_signals n xs) (local_signals (n + length xs) ys)
    (subst (AllByRecursion (HasPlace all)) (ap (local_signals n) joined ∙ locals_append n xs ys) h) in
    (q.0, subst (λ (k : ℕ). AllByRecursion (HasPlace all) (local_signals k ys)) (sym first) q.1)

in_place_closed : Closed InPlace
in_place_closed = record {
  none = λ c b. record { counted = omega arith; placed = λ all h g. tt };
  one = λ part written declares c b. record {
    counted = nothing_declared b.signals (locals_of part) declares;
    placed = λ all h g. (h, tt);
  };
  both = λ c b w v x y.
      let joined = locals_joined w.parts v.parts in
      record {
        counted = counted_behind b.signals w.after.signals v.after.signals (locals_in w.parts)
            (locals_in v.parts) (locals_in (w.parts ++ v.parts)) joined x.counted y.counted;
        placed = λ all h g.
            let q = both_placed all b.signals w.after.signals (locals_in w.parts) (locals_in v.parts)
            (locals_in (w.parts ++ v.parts)) joined x.counted g in
            all_append (λ (p : Placed Name). IsPlaced all p.scope) w.parts v.parts (x.placed all h q.0)
            (y.placed all h q.1);
      };
  locals = λ signals c b w x. record {
    counted = counted_behind b.signals (b.signals + length signals) w.after.signals signals
        (locals_in w.parts) (signals ++ locals_in w.parts) refl refl x.counted;
    placed = λ all h g.
        let q = both_placed all b.signals (b.signals + length signals) signals (locals_in w.parts)
        (signals ++ locals_in w.parts) refl refl g in
        (h, x.placed all (all_append (HasPlace all) (local_signals b.signals signals) c.signals q.0 h) q.1);
  };
  trap = λ n c b w x. record { counted = x.counted; placed = x.placed };
}

pub module_placed : (m : ModuleNode Name) → fits_block m.block ≡ true
    → AllByRecursion (λ (p : Placed Name). IsPlaced (signals_of m) p.scope) (parts_of m)
module_placed m fits =
    let interface = interface_signals m.interface in
    let locals = local_signals (length m.interface) (locals_in (parts_of m)) in
    let c : InScope = record { signals = interface; traps = [] } in
    let b : Declared = record { signals = length m.interface; traps = 0 } in
    (blocks_keep InPlace in_place_closed m.block fits c b).placed (signals_of m)
    (numbered_placed (signals_of m) [] interface locals refl (interface_numbered 0 m.interface))
    (numbered_placed (signals_of m) interface locals []
    (ap (λ (xs : List Signal). interface ++ xs) (sym (append-nil locals)))
    (subst (λ n. IsNumbered n locals) (sym (interface_length 0 m.interface))
    (locals_numbered (length m.interface) (locals_in (parts_of m)))))

-- ---- what is written

written_closed : Closed (λ c b w. AllByRecursion (λ (p : Placed Name). is_written p.part ≡ true) w.parts)
written_closed = record {
  none = λ c b. tt;
  one = λ part written declares c b. (written, tt);
  both = λ c b w v x y. all_append (λ (p : Placed Name). is_written p.part ≡ true) w.parts v.parts x y;
  locals = λ signals c b w x. (refl, x);
  trap = λ n c b w x. x;
}

pub module_written : (m : ModuleNode Name) → fits_block m.block ≡ true
    → AllByRecursion (λ (p : Placed Name). is_written p.part ≡ true) (parts_of m)
module_written m fits =
    blocks_keep (λ c b w. AllByRecursion (λ (p : Placed Name). is_written p.part ≡ true) w.parts)
    written_closed m.block fits (record { signals = interface_signals m.interface; traps = [] })
    (record { signals = length m.interface; traps = 0 })
