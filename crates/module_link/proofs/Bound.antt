-- The runs of a text without faults: each signal of the interface is bound to a signal in scope of its kind,
-- which may be emitted where the module that is run may emit it.
use Rattle.std.proofs.Common.{◌≡◌, ℕ, ◌+◌, Bool, true, false, cond, List, [], ◌∷◌, map, Option}
use Rattle.std.proofs.Common.{Some, None, refl, sym, ap, ◌∙◌}
use Rattle.std.specs.Prelude.{◌&&◌, ◌||◌, not, is_some, is_none, slice_get, filter}
use Rattle.std.specs.List.{AllByRecursion, find, flat_map}
use Rattle.std.specs.Str.{bytes_eq}
use Rattle.std.proofs.lemmas.Bool.{or_parts, not_from_false}
use Rattle.hh_base.specs.declared.value.Pos.{Pos}
use Rattle.module_tree.specs.declared.source.NameAt.{NameAt}
use Rattle.module_tree.specs.declared.source.Binding.{Binding}
use Rattle.module_tree.specs.declared.source.InterfaceNode.{InterfaceNode}
use Rattle.module_tree.specs.declared.source.ModuleNode.{ModuleNode}
use Rattle.module_tree.specs.Scopes.{Signal, InScope, signal_at, interface_from, interface_signals}
use Rattle.module_tree.specs.LinkedFacts.{is_kind, is_input}
use Rattle.link_faults.specs.Named.{Name, signal_named, interface_named, is_named}
use Rattle.link_faults.specs.Rows as row
use Rattle.link_faults.specs.Rows.{Program, unbound, differ, here_if, is_in, is_emitted, name_of_signal}
use Rattle.module_link.specs.Resolved.{resolved_binding, signal_place}
use Rattle.module_link.proofs.Lists.{append_empty, flat_map_empty, all_found, all_both, all_weaker}
use Rattle.module_link.proofs.Distinct.{find_own, all_first, equal_names}
use Rattle.module_link.proofs.Meanings.{nothing_here, signal_meant}
use Rattle.module_link.proofs.ScopePlaces.{IsPlaced, signals_of}
use Rattle.module_link.proofs.Faultless.{names_of_interface}

-- what a signal of an interface is bound to
pub record Bound (m : ModuleNode Name) (c : InScope) (s : Signal) (b : Binding ℕ) : Type 0 where
  pub left : b.left.name ≡ s.place
  pub signal : Signal
  pub right : b.right.name ≡ signal.place
  pub found : signal_at c signal.place ≡ Some signal
  pub there : slice_get (signals_of m) signal.place ≡ Some signal
  pub kinds : is_kind s.signal.kind (Some signal.signal.kind) ≡ true
  pub emits : (is_input s.dir || not (is_input signal.dir)) ≡ true

-- this signal of an interface fits what this name means
record Fits (c : InScope) (s : Signal) (n : Name) : Type 0 where
  known : is_some (signal_named c n) ≡ true
  kinds : differ (Some s) (signal_named c n) ≡ false
  emits : (not (is_input s.dir) && is_in (signal_named c n)) ≡ false

pub true_from_not : (b : Bool) → not b ≡ false → b ≡ true
true_from_not true e = refl
true_from_not false e = sym e

may_emit_or : (a b : Bool) → (not a && b) ≡ false → (a || not b) ≡ true
may_emit_or true b e = refl
may_emit_or false true e = sym e
may_emit_or false false e = refl

bound_by : (m : ModuleNode Name) (c : InScope) (s : Signal) (n : Name) (b : Binding ℕ)
    → IsPlaced (signals_of m) c → b.left.name ≡ s.place → b.right.name ≡ signal_place c n → Fits c s n
    → Bound m c s b
bound_by m c s n b placed left right fits =
    let q = signal_meant m c n placed fits.known in
    record {
      left = left;
      signal = q.signal;
      right = right ∙ q.place;
      found = q.found;
      there = q.there;
      kinds = true_from_not _ (ap (λ (o : Option Signal). differ (Some s) o) (sym q.named) ∙ fits.kinds);
      emits = may_emit_or (is_input s.dir) (is_input q.signal.dir)
          (ap (λ (o : Option Signal). not (is_input s.dir) && is_in o) (sym q.named) ∙ fits.emits);
    }

-- ---- bindings that are written, and those that are not

record WrittenFits (interface : List InterfaceNode) (c : InScope) (b : Binding Name) : Type 0 where
  known : is_some (signal_named c b.right.name) ≡ true
  kinds : differ (interface_named interface b.left.name) (signal_named c b.right.name) ≡ false
  emits : (is_emitted (interface_named interface b.left.name) && is_in (signal_named c b.right.name)) ≡ false

abbrev pub written_for : List (Binding Name) → Signal → Option (Binding Name)
written_for written s = find (λ (b : Binding Name). bytes_eq b.left.name s.signal.name) written

abbrev lefts : List (Binding Name) → List Name
lefts = map (λ (b : Binding Name). b.left.name)

not_written : (n : Name) (written : List (Binding Name))
    → find (λ (b : Binding Name). bytes_eq b.left.name n) written ≡ None → is_named (lefts written) n ≡ false
not_written n [] e = refl
not_written n (b ∷ bs) e = by (not_written n bs) (bytes_eq b.left.name n) e
  where
    by : (find (λ (b : Binding Name). bytes_eq b.left.name n) bs ≡ None → is_named (lefts bs) n ≡ false)
        → (t : Bool) → cond t (Some b) (find (λ (b : Binding Name). bytes_eq b.left.name n) bs) ≡ None
        → (t || is_named (lefts bs) n) ≡ false
    by others false e = others e
    by others true e = absurd (there e)
      where
        there : Some b ≡ None → ⊥
        there e = cc

bound_at : (m : ModuleNode Name) (c : InScope) (p : Pos) (interface : List InterfaceNode)
    (written : List (Binding Name)) (s : Signal) → IsPlaced (signals_of m) c
    → interface_named interface s.signal.name ≡ Some s → AllByRecursion (WrittenFits interface c) written
    → (is_named (lefts written) s.signal.name ≡ false → Fits c s s.signal.name)
    → Bound m c s (resolved_binding c p s (written_for written s))
bound_at m c p interface written s placed own fits unwritten = by (written_for written s) refl
  where
    by : (o : Option (Binding Name)) → written_for written s ≡ o → Bound m c s (resolved_binding c p s o)
    by None e = bound_by m c s s.signal.name _ placed refl refl
        (unwritten (not_written s.signal.name written e))
    by (Some b) e =
        let q = all_found (WrittenFits interface c) _ written b fits e in
        let left : interface_named interface b.left.name ≡ Some s = ap (interface_named interface)
        (equal_names b.left.name s.signal.name q.1) ∙ own in
        bound_by m c s b.right.name _ placed refl refl (record {
          known = q.0.known;
          kinds = ap (λ o. differ o (signal_named c b.right.name)) (sym left) ∙ q.0.kinds;
          emits = ap (λ o. is_emitted o && is_in (signal_named c b.right.name)) (sym left) ∙ q.0.emits;
        })

-- ---- all signals of an interface

names_of : (n : ℕ) (ds : List InterfaceNode) → map (λ (s : Signal). name_of_signal s.signal)
    (interface_from n ds) ≡ map (λ (d : InterfaceNode). name_of_signal d.signal) ds
names_of n [] = refl
names_of n (d ∷ ds) = ap (λ ns. name_of_signal d.signal ∷ ns) (names_of (n + 1) ds)

filtered_empty : {A B : Type 0} (f : A → List B) (test : A → Bool) (xs : List A)
    → flat_map f (filter test xs) ≡ [] → AllByRecursion (λ x. test x ≡ true → f x ≡ []) xs
filtered_empty f test [] e = tt
filtered_empty f test (x ∷ xs) e = by (filtered_empty f test xs) (test x) refl e
  where
    by : (flat_map f (filter test xs) ≡ [] → AllByRecursion (λ x. test x ≡ true → f x ≡ []) xs) → (b : Bool)
        → test x ≡ b → flat_map f (cond b (x ∷ filter test xs) (filter test xs)) ≡ []
        → (test x ≡ true → f x ≡ []) × AllByRecursion (λ x. test x ≡ true → f x ≡ []) xs
    by others true is e =
        let q = append_empty (f x) (flat_map f (filter test xs)) e in
        (λ same. q.0, others q.1)
    by others false is e = (λ same. absurd (not_both (sym same ∙ is)), others e)
      where
        not_both : true ≡ false → ⊥
        not_both e = cc

left_fits : (c : InScope) (m : ModuleNode Name) (before : List Name) (bs : List (Binding Name))
    → row.bad_left c m before bs ≡ [] → AllByRecursion (λ (b : Binding Name). differ
    (interface_named m.interface b.left.name) (signal_named c b.right.name) ≡ false) bs
left_fits c m before [] e = tt
left_fits c m before (b ∷ bs) e =
    let unknown = is_none (interface_named m.interface b.left.name) in
    let twice = is_named before b.left.name in
    let differs = differ (interface_named m.interface b.left.name) (signal_named c b.right.name) in
    let q = append_empty (here_if (unknown || twice || differs) b.left.pos) (row.bad_left c m
    (b.left.name ∷ before) bs) e in (
      (or_parts (unknown || twice) differs (nothing_here (unknown || twice || differs) b.left.pos q.0)).1,
      left_fits c m (b.left.name ∷ before) bs q.1,
    )

module _ (m callee : ModuleNode Name) (c : InScope) (name : NameAt Name) (written : List (Binding Name))
    (placed : IsPlaced (signals_of m) c) (once : row.repeated (names_of_interface callee) ≡ [])
    (rights : AllByRecursion (λ (b : Binding Name). is_some (signal_named c b.right.name) ≡ true) written)
    (bindings : row.badly_bound c name written callee ≡ [])
    (inputs : row.emitted_by_callee c name written callee ≡ []) where
  pub all_bound : AllByRecursion (λ (s : Signal). Bound m c s (resolved_binding c name.pos s
      (written_for written s))) (interface_signals callee.interface)
  all_bound =
      let signals = interface_signals callee.interface in
      let own_names = names_of 0 callee.interface in
      let distinct : row.repeated (map (λ (s : Signal). name_of_signal s.signal) signals) ≡ [] =
      ap row.repeated own_names ∙ once in
      let own = find_own (λ (s : Signal). name_of_signal s.signal) [] signals distinct in
      let all = all_first [] signals distinct in
      let unwritten = λ (s : Signal). not (is_named (lefts written) s.signal.name) in
      let bad = append_empty (row.bad_left c callee [] written) (flat_map (λ (s : Signal). here_if
      (is_none (signal_named c s.signal.name) || differ (Some s) (signal_named c s.signal.name)) name.pos)
      (unbound written callee)) bindings in
      let emitted = append_empty (flat_map (λ (b : Binding Name). here_if (is_emitted
      (interface_named callee.interface b.left.name) && is_in (signal_named c b.right.name)) b.right.pos)
      written) (flat_map (λ (s : Signal). here_if (not (is_input s.dir)
      && is_in (signal_named c s.signal.name)) name.pos) (unbound written callee)) inputs in
      let kinds = left_fits c callee [] written bad.0 in
      let emits = flat_map_empty _ written emitted.0 in
      let fits = all_weaker _ (WrittenFits callee.interface c)
      (λ b x. record { known = x.0; kinds = x.1.0; emits = nothing_here _ b.right.pos x.1.1 }) written
      (all_both _ _ written rights (all_both _ _ written kinds emits)) in
      let free = filtered_empty _ unwritten signals
      (ap (λ ss. flat_map (λ (s : Signal). here_if (is_none (signal_named c s.signal.name)
      || differ (Some s) (signal_named c s.signal.name)) name.pos) (filter unwritten ss)) (sym all) ∙ bad.1) in
      let free' = filtered_empty _ unwritten signals
      (ap (λ ss. flat_map (λ (s : Signal). here_if (not (is_input s.dir)
      && is_in (signal_named c s.signal.name)) name.pos) (filter unwritten ss)) (sym all) ∙ emitted.1) in
      all_weaker _ _
      (λ s x. bound_at m c name.pos callee.interface written s placed x.0 fits
      (λ e.
      let absent = not_from_false (is_named (lefts written) s.signal.name) e in
      let q = or_parts (is_none (signal_named c s.signal.name)) (differ (Some s)
      (signal_named c s.signal.name)) (nothing_here _ name.pos (x.1.0 absent)) in
      record { known = some_there _ q.0; kinds = q.1; emits = nothing_here _ name.pos (x.1.1 absent) }))
      signals (all_both _ _ signals own (all_both _ _ signals free free'))
    where
      some_there : (o : Option Signal) → is_none o ≡ false → is_some o ≡ true
      some_there (Some s) e = refl
      some_there None e = sym e
