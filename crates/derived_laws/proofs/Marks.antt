-- What holds of each mark that a start leaves, and stays true in each later reaction.
use Rattle.std.proofs.Common.{◌≡◌, refl, sym, ◌∙◌, ap, subst, ℕ, Option, Some, None}
use Rattle.hh_base.specs.declared.item.Item.{Item}
use Rattle.host_expr.specs.Environment.{Env}
use Rattle.hh_term.specs.Statement.{Statement}
use Rattle.hh_term.specs.Selection.{Selection, Start, Resume}
use Rattle.hh_term.specs.Touches.{held_mark}
use Rattle.hh_term.specs.Entering.{with_item}
use Rattle.hh_term.specs.MustCan.{Table}
use Rattle.hh_term.specs.Step.{Stepped, step}
use Rattle.derived_laws.specs.Resting.{RestsAt, started, resumed, held, entered, mark_after}

abbrev pub AnyMark : (Selection → Type 0) → Option Selection → Type 0
AnyMark M (Some m) = M m
AnyMark M None = Unit {0}

abbrev pub NextMark : (Selection → Type 0) → Option Stepped → Type 0
NextMark M o = AnyMark M (mark_after o)

pub record Keeps (T : Table) (p : Statement) (M : Selection → Type 0) : Type 0 where
  pub start : (E : Env) → NextMark M (step T p Start E)
  pub resume : (m : Selection) → M m → (E : Env) → NextMark M (step T p (Resume m) E)
  pub hold : (m : Selection) → M m → M (held_mark m)
  pub enter : (m : Selection) → M m → (id : ℕ) (a : Item) → AnyMark M (with_item id a m)

is_some : (M : Selection → Type 0) (o : Option Selection) (n : Selection) → AnyMark M o → o ≡ Some n → M n
is_some M o n h e = let g : AnyMark M (Some n) = subst (AnyMark M) e h in g

pub kept : (T : Table) (p : Statement) (M : Selection → Type 0) → Keeps T p M → (m : Selection) → RestsAt T p m
    → M m
kept T p M k m (started E n e) = is_some M (mark_after (step T p Start E)) n (k.start E) e
kept T p M k m (resumed m' r E n e) =
    is_some M (mark_after (step T p (Resume m') E)) n (k.resume m' (kept T p M k m' r) E) e
kept T p M k m (held m' r) = k.hold m' (kept T p M k m' r)
kept T p M k m (entered m' r id a n e) = is_some M (with_item id a m') n (k.enter m' (kept T p M k m' r) id a) e

some_rests : (T : Table) (p : Statement) (o : Option Selection)
    → ((n : Selection) → o ≡ Some n → RestsAt T p n) → AnyMark (RestsAt T p) o
some_rests T p (Some m) h = h m refl
some_rests T p None h = tt

-- the marks at which it rests are kept
pub keeps : (T : Table) (p : Statement) → Keeps T p (RestsAt T p)
keeps T p =
    record {
      start = λ E. some_rests T p (mark_after (step T p Start E)) (λ n e. started E n e);
      resume = λ m r E. some_rests T p (mark_after (step T p (Resume m) E)) (λ n e. resumed m r E n e);
      hold = λ m r. held m r;
      enter = λ m r id a. some_rests T p (with_item id a m) (λ n e. entered m r id a n e);
    }

-- one mark alone, where no async stands in it
pub at_one : (T : Table) (p : Statement) (n : Selection)
    → ((E : Env) → NextMark (λ m. m ≡ n) (step T p Start E))
    → ((E : Env) → NextMark (λ m. m ≡ n) (step T p (Resume n) E)) → held_mark n ≡ n
    → ((id : ℕ) (a : Item) → with_item id a n ≡ None) → (m : Selection) → RestsAt T p m → m ≡ n
at_one T p n start resume hold enter =
    kept T p (λ m. m ≡ n)
    (record {
      start = start;
      resume = λ m e E. subst (λ k. NextMark (λ m. m ≡ n) (step T p (Resume k) E)) (sym e) (resume E);
      hold = λ m e. ap held_mark e ∙ hold;
      enter = λ m e id a. subst (AnyMark (λ m. m ≡ n)) (sym (ap (with_item id a) e ∙ enter id a)) tt;
    })
