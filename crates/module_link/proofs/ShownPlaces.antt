-- Tables that show a scope give the places that names have in it.
use Rattle.std.proofs.Common.{◌≡◌, Bool, true, false, cond, List, [], ◌∷◌, map, Some, option_map}
use Rattle.std.proofs.Common.{refl, ap, ◌∙◌}
use Rattle.std.specs.List.{find}
use Rattle.std.specs.Str.{bytes_eq}
use Rattle.host_expr.specs.declared.expr.Expr.{Expr}
use Rattle.module_tree.specs.Scopes.{TrapName, InScope}
use Rattle.link_faults.specs.Named.{Name}
use Rattle.link_faults.specs.InnermostFirst.{place_in}
use Rattle.link_faults.proofs.ScopeLemmas.{found_signal}
use Rattle.module_link.specs.declared.places.Places.{Places}
use Rattle.module_link.specs.Resolved.{or_first, signal_place, trap_place, resolved_expr}
use Rattle.module_link.specs.Places.{signal_place_of, trap_place_of, parameter_place_of, Shows, shown_trap}

pub shown_signal : (p : Places) (c : InScope) → Shows p c → (n : Name) → signal_place_of p n ≡ signal_place c n
shown_signal p c h n = ap (λ ns. or_first (place_in ns n)) h.signals ∙ ap or_first (found_signal c.signals n)

found_trap : (traps : List TrapName) (name : Name)
    → place_in (map shown_trap traps) name ≡ option_map (λ (t : TrapName). t.place)
    (find (λ (t : TrapName). bytes_eq t.name name) traps)
found_trap [] name = refl
found_trap (t ∷ others) name = by (bytes_eq t.name name) (found_trap others name)
  where
    by : (b : Bool) → place_in (map shown_trap others) name ≡ option_map (λ (t : TrapName). t.place)
        (find (λ (t : TrapName). bytes_eq t.name name) others)
        → cond b (Some t.place) (place_in (map shown_trap others) name) ≡ option_map
        (λ (t : TrapName). t.place) (cond b (Some t) (find (λ (t : TrapName). bytes_eq t.name name) others))
    by true rest = refl
    by false rest = rest

pub shown_trap_place : (p : Places) (c : InScope) → Shows p c → (n : Name) → trap_place_of p n ≡ trap_place c n
shown_trap_place p c h n = ap (λ ns. or_first (place_in ns n)) h.traps ∙ ap or_first (found_trap c.traps n)

pub shown_expr : (p : Places) (c : InScope) → Shows p c → (x : Expr Name)
    → resolved_expr (signal_place_of p) (parameter_place_of p) x ≡ resolved_expr (signal_place c) (λ n. 0) x
shown_expr p c h x = λ i. resolved_expr (λ n. shown_signal p c h n i) (λ n. ap or_first (h.parameters n) i) x
