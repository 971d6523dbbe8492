-- Walks over pieces of a module, one after another.
use Rattle.std.proofs.Common.{◌≡◌, Bool, true, false, cond, Option, Some, None, List, [], ◌∷◌, ◌++◌, map, refl, sym}
use Rattle.std.proofs.Common.{◌∙◌, ap, subst, append_assoc, ℕ, ◌+◌, ◌<◌, length, take, get_or}
use Rattle.std.specs.Prelude.{option_map, slice_get, is_some}
use Rattle.std.specs.List.{find, flat_map}
use Rattle.std.specs.Str.{bytes_eq}
use Rattle.std.proofs.Math.Path.{fun_ext}
use Rattle.std.proofs.lemmas.List.{append-nil, map-append}
use Rattle.std.proofs.lemmas.List.Concat.{flat_map-append}
use Rattle.indexmap.specs.IndexMap.{get_by_text}
use Rattle.module_tree.specs.Scopes.{Signal, TrapName, InScope, Declared}
use Rattle.module_tree.specs.Parts.{StatementPart, Test, Locals, Walk, Walked, here, empty, then, in_order, joined}
use Rattle.module_tree.specs.Parts.{locals_walk, block_walk, statement_step, block_step}
use Rattle.module_tree.specs.declared.source.ExprAt.{ExprAt}
use Rattle.module_tree.specs.declared.source.SignalNode.{SignalNode}
use Rattle.module_tree.specs.declared.source.BlockNode.{BlockNode}
use Rattle.module_tree.specs.declared.source.Statement.TheVariants as written
use Rattle.module_tree.specs.declared.source.Statement.TheOpen as layer
use Rattle.module_tree.specs.declared.source.Statement.TheFolds.{fold-roll-Statement}
use Rattle.module_tree.specs.declared.source.NameAt.{NameAt}
use Rattle.link_faults.specs.declared.fault.LinkKind.TheVariants as fault
use Rattle.link_faults.specs.declared.fault.LinkFault.{LinkFault}
use Rattle.link_faults.specs.declared.names.Names.{Names}
use Rattle.link_faults.specs.declared.scope.Scope.{Scope}
use Rattle.link_faults.specs.declared.walk.Walker.{Walker}
use Rattle.link_faults.specs.Faults.{earlier}
use Rattle.link_faults.specs.Earliest.{first_at, first_by}
use Rattle.link_faults.specs.Named.{Name, trap_named}
use Rattle.link_faults.specs.InnermostFirst.{Named, IsScope, in_scope, place_in}
use Rattle.link_faults.specs.SourceKinds.{Kinds}
use Rattle.link_faults.specs.Rows.{Program, no_kinds, called, here_if}
use Rattle.link_faults.specs.Meanings.{meaning, meaning_at, meaning_of, meant_in, kind_of_parameter}
use Rattle.link_faults.specs.PartFaults.{Meanings}
use Rattle.link_faults.specs.Walks.{first_of_part, first_placed, runs_among, runs_placed, shown_by}
use Rattle.link_faults.specs.Walks.{shown_signal, IsReady, Stands, Passes, Moves, Follows, statement_walk}
use Rattle.link_faults.proofs.TextLaws.{one_more}
use Rattle.link_faults.proofs.EarlierLaws.{earlier_none, earlier_grouped, first_by_joined}

-- ---- what names mean where a walker stands

abbrev pub head_of : {A : Type 0} → A → List A → A
head_of d [] = d
head_of d (x ∷ xs) = x

abbrev pub tail_of : {A : Type 0} → List A → List A
tail_of [] = []
tail_of (x ∷ xs) = xs

looked_up : (names : Names) (ns : List Named) (ss : List Signal) (q : Name)
    → map (shown_by names.meanings) ns ≡ map shown_signal ss
    → meaning_at names (place_in ns q) ≡ option_map meaning
    (find (λ (s : Signal). bytes_eq s.signal.name q) ss)
looked_up names [] [] q e = refl
looked_up names [] (s ∷ ss) q e = cc
looked_up names (n ∷ ns) [] q e = cc
looked_up names (n ∷ ns) (s ∷ ss) q e =
    let first : shown_by names.meanings n ≡ shown_signal s = ap (head_of (shown_signal s)) e in
    ap (λ m. meaning_at names (cond (bytes_eq m q) (Some n.place) (place_in ns q))) (ap (λ x. x.name) first)
    ∙ by (bytes_eq s.signal.name q) (ap (λ x. x.meaning) first)
    (looked_up names ns ss q (ap tail_of e))
  where
    by : (b : Bool) → slice_get names.meanings n.place ≡ Some (meaning s)
        → meaning_at names (place_in ns q) ≡ option_map meaning
        (find (λ (s : Signal). bytes_eq s.signal.name q) ss)
        → meaning_at names (cond b (Some n.place) (place_in ns q)) ≡ option_map meaning
        (cond b (Some s) (find (λ (s : Signal). bytes_eq s.signal.name q) ss))
    by true here rest = here
    by false here rest = rest

pub meant_where : (scope : InScope) (w : Walker) → Stands scope w → (q : Name)
    → meaning_of w.names q ≡ meant_in scope q
meant_where scope w s q = ap (meaning_at w.names) (s.signals.found q)
    ∙ looked_up w.names (in_scope w.names.signals) scope.signals q s.meant

trap_found : (ns : List Named) (ts : List TrapName) (q : Name)
    → map (λ (n : Named). n.name) ns ≡ map (λ (t : TrapName). t.name) ts
    → is_some (place_in ns q) ≡ is_some (find (λ (t : TrapName). bytes_eq t.name q) ts)
trap_found [] [] q e = refl
trap_found [] (t ∷ ts) q e = cc
trap_found (n ∷ ns) [] q e = cc
trap_found (n ∷ ns) (t ∷ ts) q e =
    ap (λ m. is_some (cond (bytes_eq m q) (Some n.place) (place_in ns q))) (ap (head_of t.name) e)
    ∙ by (bytes_eq t.name q) (trap_found ns ts q (ap tail_of e))
  where
    by : (b : Bool) → is_some (place_in ns q) ≡ is_some (find (λ (t : TrapName). bytes_eq t.name q) ts)
        → is_some (cond b (Some n.place) (place_in ns q))
        ≡ is_some (cond b (Some t) (find (λ (t : TrapName). bytes_eq t.name q) ts))
    by true rest = refl
    by false rest = rest

pub trap_where : (scope : InScope) (w : Walker) → Stands scope w → (q : Name)
    → is_some (get_by_text w.traps.places q) ≡ is_some (trap_named scope q)
trap_where scope w s q = ap is_some (s.traps.found q)
    ∙ trap_found (in_scope w.traps) scope.traps q s.named

-- what is found by what names mean
pub found_where : (find : Meanings → Kinds → Option LinkFault) (scope : InScope) (w : Walker) → Stands scope w
    → find (meaning_of w.names) (kind_of_parameter w.names) ≡ find (meant_in scope) no_kinds
found_where find scope w s =
    ap (λ (m : Meanings). find m (kind_of_parameter w.names)) (fun_ext (meant_where scope w s))
    ∙ ap (find (meant_in scope)) s.bodiless

-- ---- pieces

pub stands_still : (scope : InScope) (old new : Walker) → new.names ≡ old.names → new.traps ≡ old.traps
    → Stands scope old → Stands scope new
stands_still scope old new names traps s = record {
  signals = subst (λ (n : Names). IsScope n.signals) (sym names) s.signals;
  meant = subst (λ (n : Names). map (shown_by n.meanings) (in_scope n.signals) ≡ map shown_signal scope.signals)
      (sym names) s.meant;
  traps = subst IsScope (sym traps) s.traps;
  named = subst (λ (t : Scope). map (λ (n : Named). n.name) (in_scope t)
      ≡ map (λ (t : TrapName). t.name) scope.traps) (sym traps) s.named;
  bodiless = subst (λ (n : Names). kind_of_parameter n ≡ no_kinds) (sym names) s.bodiless;
}

pub follows_here : (parts : Program) (part : StatementPart Name) (old new : Walker) → new.names ≡ old.names
    → new.traps ≡ old.traps → new.runs ≡ old.runs ++ runs_among parts (called part)
    → ((scope : InScope) → Stands scope old
    → new.first ≡ earlier old.first (first_of_part parts scope part)) → Follows parts (here part) old new
follows_here parts part old new names traps runs first = record {
  ready = λ r. record {
    signals = subst (λ (n : Names). IsScope n.signals) (sym names) r.signals;
    traps = subst IsScope (sym traps) r.traps;
  };
  passes = λ scope before s. record {
    stands = stands_still scope old new names traps s;
    first = first scope s ∙ ap (earlier old.first) (sym (earlier_none (first_of_part parts scope part)));
    runs = runs ∙ ap (λ rs. old.runs ++ rs) (sym (append-nil (runs_among parts (called part))));
  };
}

pub follows_empty : (parts : Program) (w : Walker) → Follows parts empty w w
follows_empty parts w = record {
  ready = λ r. r;
  passes = λ scope before s. record {
    stands = s;
    first = sym (earlier_none w.first);
    runs = sym (append-nil w.runs);
  };
}

pub follows_then : (parts : Program) (a b : Walk Name) (old mid new : Walker) → Follows parts a old mid
    → Follows parts b mid new → Follows parts (then a b) old new
follows_then parts a b old mid new p q = record {
  ready = λ r. q.ready (p.ready r);
  passes = λ scope before s. both scope before s;
}
  where
    both : (scope : InScope) (before : Declared) → Stands scope old
        → Passes parts scope (then a b scope before).parts old new
    both scope before s =
        let one = p.passes scope before s in
        let xs = (a scope before).parts in
        let after = (a scope before).after in
        let ys = (b scope after).parts in
        let two = q.passes scope after one.stands in
        record {
          stands = two.stands;
          first = two.first ∙ ap (λ o. earlier o (first_by (first_placed parts) ys)) one.first
              ∙ earlier_grouped old.first (first_by (first_placed parts) xs) (first_by (first_placed parts) ys)
              ∙ ap (earlier old.first) (sym (first_by_joined (first_placed parts) xs ys));
          runs = two.runs ∙ ap (λ rs. rs ++ flat_map (runs_placed parts) ys) one.runs
              ∙ append_assoc old.runs (flat_map (runs_placed parts) xs) (flat_map (runs_placed parts) ys)
              ∙ ap (λ rs. old.runs ++ rs) (sym (flat_map-append (runs_placed parts) xs ys));
        }

pub follows_alike : (parts : Program) (a b : Walk Name) (old new : Walker)
    → ((scope : InScope) (before : Declared) → a scope before ≡ b scope before) → Follows parts a old new
    → Follows parts b old new
follows_alike parts a b old new same p = record {
  ready = p.ready;
  passes = λ scope before s. subst (λ (w : Walked Name). Passes parts scope w.parts old new)
      (same scope before) (p.passes scope before s);
}

in_order_more : (ws : List (Walk Name)) (w : Walk Name) (scope : InScope) (before : Declared)
    → then (in_order ws) w scope before ≡ in_order (ws ++ w ∷ []) scope before
in_order_more [] w scope before = ap (λ ps. record { parts = ps; after = (w scope before).after })
    (sym (append-nil (w scope before).parts))
in_order_more (v ∷ ws) w scope before =
    let one = v scope before in
    let two = in_order ws scope one.after in
    let three = w scope two.after in
    ap (λ ps. record { parts = ps; after = three.after }) (append_assoc one.parts two.parts three.parts)
    ∙ ap (joined one.parts) (in_order_more ws w scope one.after)

-- one piece more
pub follows_more : {A : Type 0} (parts : Program) (walk : A → Walk Name) (xs : List A) (i : ℕ) (x : A)
    (old mid new : Walker) → i < length xs → x ≡ get_or xs i x
    → Follows parts (in_order (map walk (take i xs))) old mid → Follows parts (walk x) mid new
    → Follows parts (in_order (map walk (take (i + 1) xs))) old new
follows_more parts walk xs i x old mid new within at before one =
    one_more (λ ys. Follows parts (in_order (map walk ys)) old new) xs i x within at
    (subst (λ ws. Follows parts (in_order ws) old new) (sym (map-append walk (take i xs) (x ∷ [])))
    (follows_alike parts (then (in_order (map walk (take i xs))) (walk x))
    (in_order (map walk (take i xs) ++ walk x ∷ [])) old new
    (in_order_more (map walk (take i xs)) (walk x))
    (follows_then parts (in_order (map walk (take i xs))) (walk x) old mid new before one)))

-- a piece in which more is in scope
pub follows_within : (parts : Program) (piece : Walk Name) (inner : InScope → Declared → InScope)
    (deeper : Declared → Declared) (old mid after new : Walker) → (IsReady mid → IsReady after)
    → (IsReady old → IsReady mid) → (IsReady after → IsReady new)
    → ((scope : InScope) (before : Declared) → Stands scope old → Moves (inner scope before) old mid)
    → Follows parts piece mid after
    → ((scope : InScope) (before : Declared) → Stands (inner scope before) after → Moves scope after new)
    → Follows parts (λ scope before. piece (inner scope before) (deeper before)) old new
follows_within parts piece inner deeper old mid after new r s t enters p leaves = record {
  ready = λ h. t (r (s h));
  passes = λ scope before h.
      let entered = enters scope before h in
      let passed = p.passes (inner scope before) (deeper before) entered.stands in
      let left = leaves scope before passed.stands in
      let found = (piece (inner scope before) (deeper before)).parts in
      record {
        stands = left.stands;
        first = left.first ∙ passed.first ∙ ap (λ o. earlier o (first_by (first_placed parts) found))
            entered.first;
        runs = left.runs ∙ passed.runs ∙ ap (λ rs. rs ++ flat_map (runs_placed parts) found) entered.runs;
      };
}

pub exit_alike : (n : NameAt Name) (b : Bool) → first_at fault.UnknownTrap (here_if b n.pos)
    ≡ first_at fault.UnknownTrap (map (λ (n : NameAt Name). n.pos) (cond b (n ∷ []) []))
exit_alike n true = refl
exit_alike n false = refl

pub walk_signal : (signals : List SignalNode) (b : BlockNode Name) → statement_walk (written.Signal signals b)
    ≡ then (here (Locals signals)) (locals_walk signals (block_walk b))
walk_signal signals b = ap statement_walk (sym (written.rolls-Signal signals b))
    ∙ fold-roll-Statement Name (Walk Name) (Walk Name) (Walk Name) statement_step block_step (λ n. n.what)
    (layer.Signal signals b)

pub walk_if : (x : ExprAt Name) (b : BlockNode Name) → statement_walk (written.If x b None)
    ≡ then (here (Test x)) (then (block_walk b) empty)
walk_if x b = ap statement_walk (sym (written.rolls-If x b None))
    ∙ fold-roll-Statement Name (Walk Name) (Walk Name) (Walk Name) statement_step block_step (λ n. n.what)
    (layer.If x b None)

pub walk_if_else : (x : ExprAt Name) (b other : BlockNode Name) → statement_walk (written.If x b (Some other))
    ≡ then (here (Test x)) (then (block_walk b) (block_walk other))
walk_if_else x b other = ap statement_walk (sym (written.rolls-If x b (Some other)))
    ∙ fold-roll-Statement Name (Walk Name) (Walk Name) (Walk Name) statement_step block_step (λ n. n.what)
    (layer.If x b (Some other))
