-- The expressions of a part of a text without faults, with their names resolved: they read signals in scope and
-- have the kind of their place.
use Rattle.std.proofs.Common.{◌≡◌, ℕ, ◌+◌, Bool, true, false, cond, List, [], ◌∷◌, ◌++◌, map, length, Option}
use Rattle.std.proofs.Common.{Some, None, option_map, refl, sym, ap, subst, ◌∙◌}
use Rattle.std.specs.Prelude.{is_some, slice_get, nat_le}
use Rattle.std.specs.List.{AllByRecursion, flat_map, list_all}
use Rattle.std.proofs.lemmas.List.{map-append}
use Rattle.std.proofs.lemmas.Bool.{and_parts, and_from}
use Rattle.hh_base.specs.declared.value.Pos.{Pos}
use Rattle.hh_base.specs.declared.value.Kind.{Kind}
use Rattle.host_expr.specs.Expression.{expression_of}
use Rattle.host_expr.specs.Kinds.{kind_of_expression}
use Rattle.host_expr.specs.declared.expr.TheConstants.{EXPRESSION_LIMIT}
use Rattle.host_expr.specs.Misfit.{Judged}
use Rattle.module_tree.specs.declared.source.NameAt.{NameAt}
use Rattle.module_tree.specs.declared.source.ExprAt.{ExprAt}
use Rattle.module_tree.specs.declared.source.SignalNode.{SignalNode}
use Rattle.module_tree.specs.declared.source.InterfaceNode.{InterfaceNode}
use Rattle.module_tree.specs.declared.source.ModuleNode.{ModuleNode}
use Rattle.module_tree.specs.Scopes.{Signal, InScope, local_signals, interface_from}
use Rattle.module_tree.specs.Parts.{StatementPart, Test, Times, Emission, Locals, Exit, Call, Start, parts_of}
use Rattle.module_tree.specs.Parts.{expressions_of, signals_read, parameters_read}
use Rattle.module_tree.specs.SourceExpressions.{has_written_words, size_of}
use Rattle.module_tree.specs.SourceForms.{fits_expression}
use Rattle.module_tree.specs.LinkedFacts.{is_kind, has_kind, sigs_of, is_small}
use Rattle.link_faults.specs.Named.{Name, signal_named}
use Rattle.link_faults.specs.SourceKinds.{Kinds, judged_source, unless_kind, wrong_for}
use Rattle.link_faults.specs.Rows.{Program, kinds_in, no_kinds}
use Rattle.module_link.specs.Resolved.{resolved, resolved_name, resolved_expr, signal_place}
use Rattle.module_link.proofs.Lists.{nothing_first, get_of_map}
use Rattle.module_link.proofs.ResolvedExpressions.{AllMean, Kinded, expressions_resolved}
use Rattle.module_link.proofs.ScopePlaces.{IsPlaced, signals_of, locals_in}
use Rattle.module_link.proofs.Meanings.{MeansSignal, signal_meant}
use Rattle.module_link.proofs.ResolvedParts.{resolved_in}

-- ---- kinds by places

abbrev pub kinds_of : ModuleNode Name → List Kind
kinds_of m = map (λ (s : SignalNode). s.kind) (sigs_of m)

locals_listed : (n : ℕ) (ss : List SignalNode) → map (λ (s : Signal). s.signal) (local_signals n ss) ≡ ss
locals_listed n [] = refl
locals_listed n (s ∷ ss) = ap (λ xs. s ∷ xs) (locals_listed (n + 1) ss)

interface_listed : (n : ℕ) (ds : List InterfaceNode) → map (λ (s : Signal). s.signal) (interface_from n ds)
    ≡ map (λ (d : InterfaceNode). d.signal) ds
interface_listed n [] = refl
interface_listed n (d ∷ ds) = ap (λ xs. d.signal ∷ xs) (interface_listed (n + 1) ds)

signals_listed : (m : ModuleNode Name) → map (λ (s : Signal). s.signal) (signals_of m) ≡ sigs_of m
signals_listed m =
    map-append (λ (s : Signal). s.signal) (interface_from 0 m.interface)
    (local_signals (length m.interface) (locals_in (parts_of m)))
    ∙ (λ i. interface_listed 0 m.interface i ++ locals_listed (length m.interface)
    (locals_in (parts_of m)) i)

pub kind_at : (m : ModuleNode Name) (s : Signal) → slice_get (signals_of m) s.place ≡ Some s
    → slice_get (kinds_of m) s.place ≡ Some s.signal.kind
kind_at m s there =
    ap (λ ss. slice_get (map (λ (s : SignalNode). s.kind) ss) s.place) (sym (signals_listed m))
    ∙ get_of_map (λ (s : SignalNode). s.kind) (map (λ (s : Signal). s.signal) (signals_of m)) s.place
    ∙ ap (option_map (λ (s : SignalNode). s.kind)) (get_of_map (λ (s : Signal). s.signal) (signals_of m)
    s.place ∙ ap (option_map (λ (s : Signal). s.signal)) there)

pub kind_meant : (m : ModuleNode Name) (c : InScope) (n : Name) (q : MeansSignal m c n)
    → (kinds_in c n ≡ Some q.signal.signal.kind)
    × (slice_get (kinds_of m) (signal_place c n) ≡ Some q.signal.signal.kind)
kind_meant m c n q = (
  ap (option_map (λ (s : Signal). s.signal.kind)) q.named,
  ap (slice_get (kinds_of m)) q.place ∙ kind_at m q.signal q.there,
)

abbrev pub AllKnown : InScope → List (NameAt Name) → Type 0
AllKnown c = AllByRecursion (λ (n : NameAt Name). is_some (signal_named c n.name) ≡ true)

pub all_mean : (m : ModuleNode Name) (c : InScope) (names : List (NameAt Name)) → IsPlaced (signals_of m) c
    → AllKnown c names → AllMean (kinds_in c) (kinds_of m) (signal_place c) names
all_mean m c [] placed h = tt
all_mean m c (n ∷ ns) placed h =
    let q = kind_meant m c n.name (signal_meant m c n.name placed h.0) in
    (record { known = ap is_some q.0; same = q.1 ∙ sym q.0 }, all_mean m c ns placed h.1)

pub none_mean : (ks : Kinds) (K : List Kind) (places : Name → ℕ) (names : List (NameAt Name)) → names ≡ []
    → AllMean ks K places names
none_mean ks K places names e = subst (AllMean ks K places) (sym e) tt

-- ---- the kind of a place

judged_fits : (k : Kind) (p : Pos) (j : Judged) (own : Option Kind) → Kinded j own
    → unless_kind k p j.kind j.misfits ≡ [] → is_kind k own ≡ true
judged_fits k p j own h e = ap (is_kind k) (sym h.same) ∙ by j.kind h.found e
  where
    by : (o : Option Kind) → (j.misfits ≡ [] → is_some o ≡ true) → unless_kind k p o j.misfits ≡ []
        → is_kind k o ≡ true
    by None found e = absurd (absent (found e))
      where
        absent : false ≡ true → ⊥
        absent e = cc
    by (Some own) found e = fits (is_kind k (Some own)) e
      where
        fits : (b : Bool) → cond b [] (p ∷ []) ≡ [] → b ≡ true
        fits true e = refl
        fits false e = absurd (nothing_first p [] e)

pub place_fits : (signals args : Name → ℕ) (ks ka : Kinds) (K A : List Kind) (k : Kind) (x : ExprAt Name)
    → AllMean ks K signals (signals_read x.expr) → AllMean ka A args (parameters_read x.expr)
    → wrong_for ks ka k x ≡ []
    → has_kind K A k (record { pos = x.pos; expr = resolved_expr signals args x.expr }) ≡ true
place_fits signals args ks ka K A k x known taken e =
    judged_fits k x.pos (judged_source ks ka x.expr) (kind_of_expression K A
    (expression_of (resolved_expr signals args x.expr)))
    ((expressions_resolved signals args x.expr).same_kinds ks ka K A known taken) e

-- in a module, where nothing is a parameter
pub expression_fits : (m : ModuleNode Name) (c : InScope) (k : Kind) (x : ExprAt Name)
    → IsPlaced (signals_of m) c → AllKnown c (signals_read x.expr) → parameters_read x.expr ≡ []
    → wrong_for (kinds_in c) no_kinds k x ≡ [] → has_kind (kinds_of m) [] k (resolved c x) ≡ true
expression_fits m c k x placed known taken e =
    place_fits (signal_place c) (λ n. 0) (kinds_in c) no_kinds (kinds_of m) [] k x
    (all_mean m c (signals_read x.expr) placed known)
    (none_mean no_kinds [] (λ n. 0) (parameters_read x.expr) taken) e

-- ---- the expressions of a part

pub expressions_same : (parts : Program) (c : InScope) (part : StatementPart Name)
    → expressions_of (resolved_in parts c part) ≡ map (resolved c) (expressions_of part)
expressions_same parts c (Test x) = refl
expressions_same parts c (Times n) = refl
expressions_same parts c (Emission n None) = refl
expressions_same parts c (Emission n (Some x)) = refl
expressions_same parts c (Locals signals) = refl
expressions_same parts c (Exit t) = refl
expressions_same parts c (Call m bindings) = refl
expressions_same parts c (Start a) = refl

pub reads_same : (c : InScope) (xs : List (ExprAt Name))
    → flat_map (λ (x : ExprAt ℕ). signals_read x.expr) (map (resolved c) xs)
    ≡ map (resolved_name (signal_place c)) (flat_map (λ (x : ExprAt Name). signals_read x.expr) xs)
reads_same c [] = refl
reads_same c (x ∷ xs) =
    (λ i. (expressions_resolved (signal_place c) (λ n. 0) x.expr).same_reads i ++ reads_same c xs i)
    ∙ sym (map-append (resolved_name (signal_place c)) (signals_read x.expr)
    (flat_map (λ (x : ExprAt Name). signals_read x.expr) xs))

pub parameters_same : (c : InScope) (xs : List (ExprAt Name))
    → flat_map (λ (x : ExprAt ℕ). parameters_read x.expr) (map (resolved c) xs)
    ≡ map (resolved_name (λ n. 0)) (flat_map (λ (x : ExprAt Name). parameters_read x.expr) xs)
parameters_same c [] = refl
parameters_same c (x ∷ xs) =
    (λ i. (expressions_resolved (signal_place c) (λ n. 0) x.expr).same_parameters i
    ++ parameters_same c xs i)
    ∙ sym (map-append (resolved_name (λ n. 0)) (parameters_read x.expr)
    (flat_map (λ (x : ExprAt Name). parameters_read x.expr) xs))

pub small_same : (signals args : Name → ℕ) (x : ExprAt Name) → fits_expression x ≡ true
    → is_small (record { pos = x.pos; expr = resolved_expr signals args x.expr }) ≡ true
small_same signals args x fits =
    ap (λ n. nat_le n EXPRESSION_LIMIT) (expressions_resolved signals args x.expr).same_size
    ∙ (and_parts (has_written_words x.expr) (nat_le (size_of x.expr) EXPRESSION_LIMIT) fits).1

pub all_small : (c : InScope) (xs : List (ExprAt Name)) → list_all fits_expression xs ≡ true
    → list_all is_small (map (resolved c) xs) ≡ true
all_small c [] e = refl
all_small c (x ∷ xs) e =
    let q = and_parts (fits_expression x) (list_all fits_expression xs) e in
    and_from (is_small (resolved c x)) (list_all is_small (map (resolved c) xs))
    (small_same (signal_place c) (λ n. 0) x q.0) (all_small c xs q.1)
