-- Entering and leaving a declaration.
use Rattle.std.proofs.Common.{◌≡◌, ℕ, Bool, true, false, cond, Some, List, [], ◌∷◌, ◌++◌, drop}
use Rattle.std.proofs.Common.{map, reverse, option_map, refl, sym, ◌∙◌, ap, subst}
use Rattle.std.specs.List.{find}
use Rattle.std.specs.Str.{bytes_eq}
use Rattle.std.specs.String.{string_bytes}
use Rattle.std.proofs.lemmas.List.{reverse-append}
use Rattle.indexmap.specs.IndexMap.{get_by_text}
use Rattle.module_tree.specs.Scopes.{Signal}
use Rattle.link_faults.specs.declared.scope.Declaration.{Declaration}
use Rattle.link_faults.specs.declared.scope.Scope.{Scope}
use Rattle.link_faults.specs.Named.{Name}
use Rattle.link_faults.specs.InnermostFirst.{place_in, named, in_scope, KeepHidden, IsScope, declares}
use Rattle.link_faults.specs.InnermostFirst.{shown}

reverse_push : {A : Type 0} (xs : List A) (x : A) (ys : List A) → ys ≡ xs ++ x ∷ []
    → reverse ys ≡ x ∷ reverse xs
reverse_push xs x ys e = ap reverse e ∙ reverse-append xs (x ∷ [])

-- a name is declared: the table finds it, and everything else as before
pub scope_entered : (old new : Scope) (d : Declaration) (name : Name) (place : ℕ) → IsScope old
    → new.declared ≡ old.declared ++ d ∷ []
    → string_bytes d.name ≡ name → d.place ≡ place → d.hidden ≡ place_in (in_scope old) name
    → ((q : Name) → get_by_text new.places q ≡ cond (bytes_eq name q) (Some place)
    (get_by_text old.places q)) → IsScope new
scope_entered old new d name place s e is at hidden finds =
    let turned : reverse new.declared ≡ d ∷ reverse old.declared = reverse_push old.declared d new.declared
    e in
    record {
      found = λ q. finds q ∙ ap (λ o. cond (bytes_eq name q) (Some place) o) (s.found q)
          ∙ sym (ap (λ ds. place_in (map named ds) q) turned
          ∙ ap (λ n. cond (bytes_eq n q) (Some d.place) (place_in (in_scope old) q)) is
          ∙ ap (λ p. cond (bytes_eq name q) (Some p) (place_in (in_scope old) q)) at);
      hidden = subst KeepHidden (sym turned) (hidden ∙ sym (ap (place_in (in_scope old)) is), s.hidden);
    }

pub entered_in_scope : (old new : Scope) (d : Declaration) (name : Name) (place : ℕ)
    → new.declared ≡ old.declared ++ d ∷ []
    → string_bytes d.name ≡ name → d.place ≡ place → in_scope new ≡ declares name place ∷ in_scope old
entered_in_scope old new d name place e is at =
    ap (map named) (reverse_push old.declared d new.declared e)
    ∙ ap (λ n. declares n d.place ∷ in_scope old) is ∙ ap (λ p. declares name p ∷ in_scope old) at

-- the innermost declaration is left: its name is found as outside of it
pub scope_left : (old new : Scope) (d : Declaration) → IsScope old → old.declared ≡ new.declared ++ d ∷ []
    → ((q : Name) → get_by_text new.places q ≡ cond (bytes_eq (string_bytes d.name) q) d.hidden
    (get_by_text old.places q))
    → ((q : Name) → bytes_eq (string_bytes d.name) q ≡ true → string_bytes d.name ≡ q) → IsScope new
scope_left old new d s e finds same =
    let turned : reverse old.declared ≡ d ∷ reverse new.declared = reverse_push new.declared d old.declared
    e in
    let kept : KeepHidden (d ∷ reverse new.declared) = subst KeepHidden turned s.hidden in
    record {
      found = λ q. finds q ∙ outside q kept.0 (s.found q ∙ ap (λ ds. place_in (map named ds) q) turned)
          (bytes_eq (string_bytes d.name) q) refl;
      hidden = kept.1;
    }
  where
    outside : (q : Name) → d.hidden ≡ place_in (in_scope new) (string_bytes d.name)
        → get_by_text old.places q ≡ cond (bytes_eq (string_bytes d.name) q) (Some d.place)
        (place_in (in_scope new) q)
        → (b : Bool) → bytes_eq (string_bytes d.name) q ≡ b
        → cond (bytes_eq (string_bytes d.name) q) d.hidden (get_by_text old.places q) ≡ place_in
        (in_scope new) q
    outside q hidden before true is = ap (λ b. cond b d.hidden (get_by_text old.places q)) is ∙ hidden
        ∙ ap (place_in (in_scope new)) (same q is)
    outside q hidden before false is = ap (λ b. cond b d.hidden (get_by_text old.places q)) is ∙ before
        ∙ ap (λ b. cond b (Some d.place) (place_in (in_scope new) q)) is

pub left_in_scope : (old new : Scope) (d : Declaration) → old.declared ≡ new.declared ++ d ∷ []
    → in_scope new ≡ drop 1 (in_scope old)
left_in_scope old new d e = sym (ap (λ ds. drop 1 (map named ds))
    (reverse_push new.declared d old.declared e))

-- ---- lists of signals

-- a name in scope means the same in the table as in the scope itself
pub found_signal : (signals : List Signal) (name : Name)
    → place_in (map shown signals) name ≡ option_map (λ (s : Signal). s.place)
    (find (λ (s : Signal). bytes_eq s.signal.name name) signals)
found_signal [] name = refl
found_signal (s ∷ others) name = by (bytes_eq s.signal.name name) (found_signal others name)
  where
    by : (b : Bool) → place_in (map shown others) name ≡ option_map (λ (s : Signal). s.place)
        (find (λ (s : Signal). bytes_eq s.signal.name name) others)
        → cond b (Some s.place) (place_in (map shown others) name) ≡ option_map (λ (s : Signal). s.place)
        (cond b (Some s) (find (λ (s : Signal). bytes_eq s.signal.name name) others))
    by true rest = refl
    by false rest = rest
