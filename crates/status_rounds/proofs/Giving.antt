-- The given inputs are counted one after the other.
use Rattle.std.proofs.Common.{◌≡◌, refl, sym, ap, subst, ◌∙◌, ℕ, ◌+◌, ◌<◌, ◌≤◌, List, [], ◌∷◌, ◌++◌, length}
use Rattle.std.proofs.Common.{take}
use Rattle.std.proofs.Common.{get_or}
use Rattle.std.proofs.lemmas.List.{map-append, take_more, take_all}
use Rattle.hh_base.specs.declared.value.Value.{Value}
use Rattle.host_expr.specs.declared.cell.Cell.TheVariants as cell
use Rattle.hh_term.specs.MustCan.{Table, Bag, Executed, gives}
use Rattle.status_table.specs.declared.tally.Tally.{Tally}
use Rattle.status_table.specs.Walking.{Tallied}
use Rattle.status_table.proofs.Adding.{nothing_adds}
use Rattle.status_table.proofs.Meeting.{cells-append, tallied_both}
use Rattle.status_rounds.specs.Given.{given_all}

pub none_counted : (T : Table) (ts : List Tally) → Tallied T (gives [] 0 Executed) ts ts
none_counted T ts = record
    { count = refl; adds = λ s t e. (t, e, nothing_adds (T.kind s) (T.word s) t) }

pub one_counted : (T : Table) (is : List (ℕ × Value)) (k : ℕ) (i : ℕ × Value) (t0 t1 t2 : List Tally) → k <
    length
    is → i ≡ get_or is k i → Tallied T (gives (given_all (take k is)) 0 Executed) t0 t1 → Tallied T
    (gives ((i.0, cell.Known i.1) ∷ []) 0 Executed) t1 t2 → Tallied T
    (gives (given_all (take (k + 1) is)) 0 Executed) t0 t2
one_counted T is k i t0 t1 t2 lt e h g =
    let bag : Bag = given_all (take k is) in
    let one : Bag = (i.0, cell.Known i.1) ∷ [] in
    let is_more : given_all (take (k + 1) is) ≡ bag ++ one = ap given_all (take_more is k i lt) ∙ ap
    (λ x. given_all (take k is ++ x ∷ [])) (sym e) ∙ map-append (λ i. (i.0, cell.Known i.1)) (take k is)
    (i ∷ []) in
    subst (λ b. Tallied T (gives b 0 Executed) t0 t2) (sym is_more)
    (tallied_both T (gives bag 0 Executed) (gives one 0 Executed) (gives (bag ++ one) 0 Executed) t0 t1 t2 h g
    (λ s. sym (cells-append s bag one)) (λ s. sym (cells-append s bag one)))

pub all_counted : (T : Table) (is : List (ℕ × Value)) (k : ℕ) (t0 t1 : List Tally) → length is ≤ k → Tallied T
    (gives (given_all (take k is)) 0 Executed) t0 t1 → Tallied T (gives (given_all is) 0 Executed) t0 t1
all_counted T is k t0 t1 h g = subst (λ l. Tallied T (gives (given_all l) 0 Executed) t0 t1) (take_all k is h)
    g
