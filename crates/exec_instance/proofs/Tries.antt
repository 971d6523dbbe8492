-- What the code that tries an answer finds, in the terms of the rule.
use Rattle.std.proofs.Common.{◌≡◌, ◌≢◌, ℕ, ◌≤◌, Bool, true, false, Option, Some, Result, Ok, Err, List, [], ◌∷◌, ◌++◌, map, get_or, refl, sym, ◌∙◌, ap, subst, arith}
use Rattle.std.specs.Prelude.{slice_get, slice_set, if◌then◌else◌}
use Rattle.std.proofs.lemmas.Bool.Decides.{nat_tests}
use Rattle.std.proofs.lemmas.Option.{get_or_from_slice_get}
use Rattle.std.proofs.lemmas.List.{set-get_or}
use Rattle.std.specs.Result.{OnOk, OnErr}
use Rattle.hh_base.specs.declared.memory.NoMemory.{NoMemory}
use Rattle.hh_base.specs.declared.item.Item.{Item}
use Rattle.hh_base.specs.declared.value.Kind.{Kind}
use Rattle.hh_base.specs.Queue.{ends_with_last}
use Rattle.exec_instance.specs.declared.answer.Answer.{Answer}
use Rattle.exec_instance.specs.declared.instance.Instance.{Instance}
use Rattle.exec_instance.specs.declared.effect.Reason.TheVariants.{Repeated, Unknown, Mistyped}
use Rattle.exec_instance.specs.Running.{Running, holder, IsRising}
use Rattle.exec_instance.specs.Entering.{under, Enters, Drops, was_given, is_well_typed, verdict, verdict_at, item_of, with_item}
use Rattle.exec_instance.specs.Places.{IsHeldAt, IsOpenAt}
use Rattle.exec_instance.proofs.Holding.{holder-at, map-with_item-at, Rise-with_item}

given : (last id : ℕ) → id ≢ 0 → id ≤ last → was_given last id ≡ true
given last id some within = grind (arith, nat_tests)

-- the instance that the code has seen at the place that holds the id
pub record Seen (kinds : List Kind) (parts : Bool) (now : Running) (a : Answer) (place : ℕ) (seen : Instance) : Type 0 where
  pub judged : verdict (under kinds parts now.last) now.instances a ≡ verdict_at (under kinds parts now.last) (Some seen) a
  pub there : slice_get now.instances place ≡ Some seen
  pub same : seen.id ≡ a.id

seen_in : (kinds : List Kind) (parts : Bool) (last : ℕ) (items : List Instance) (a : Answer) (place : ℕ) (seen : Instance) → IsRising items last → a.id ≢ 0 → a.id ≤ last → IsHeldAt items a.id place → seen ≡ get_or items place seen → Seen kinds parts (record { last = last; instances = items }) a place seen
seen_in kinds parts last items a place seen rise some within held is =
    let e : held.held ≡ seen = sym (is ∙ get_or_from_slice_get items place held.held seen held.there) in
    let there : slice_get items place ≡ Some seen = held.there ∙ ap (λ (x : Instance). Some x) e in
    let same : seen.id ≡ a.id = sym (ap (λ (x : Instance). x.id) e) ∙ held.same in
    let found : holder items a.id ≡ Some seen = ap (holder items) (sym same) ∙ holder-at 0 items last place seen rise there in
    record {
      judged =
          ap (λ (b : Bool). if b then verdict_at (under kinds parts last) (holder items a.id) a else Drops Unknown) (given last a.id some within) ∙ ap (λ (o : Option Instance). verdict_at (under kinds parts last) o a) found;
      there = there;
      same = same;
    }

pub seen_at : (kinds : List Kind) (parts : Bool) (now : Running) (last : ℕ) (items : List Instance) (a : Answer) (place : ℕ) (seen : Instance) → record { last = last; instances = items } ≡ now → IsRising items last → a.id ≢ 0 → a.id ≤ last → IsHeldAt now.instances a.id place → seen ≡ get_or items place seen → Seen kinds parts now a place seen
seen_at kinds parts now last items a place seen view rise some within held is =
    subst (λ (r : Running). Seen kinds parts r a place seen) view (seen_in kinds parts last items a place seen rise some within (subst (λ (r : Running). IsHeldAt r.instances a.id place) (sym view) held) is)

module _ (kinds : List Kind) (parts : Bool) (now : Running) (a : Answer) (place : ℕ) (seen : Instance) (s : Seen kinds parts now a place seen) where
  unanswered : ends_with_last seen.queue ≡ false → verdict (under kinds parts now.last) now.instances a ≡ (if is_well_typed (under kinds parts now.last) seen a then Enters else Drops Mistyped)
  unanswered e = s.judged ∙ ap (λ (b : Bool). if b then Drops Repeated else if is_well_typed (under kinds parts now.last) seen a then Enters else Drops Mistyped) e

  pub repeated : ends_with_last seen.queue ≡ true → verdict (under kinds parts now.last) now.instances a ≡ Drops Repeated
  repeated e = s.judged ∙ ap (λ (b : Bool). if b then Drops Repeated else if is_well_typed (under kinds parts now.last) seen a then Enters else Drops Mistyped) e

  pub enters : ends_with_last seen.queue ≡ false → is_well_typed (under kinds parts now.last) seen a ≡ true → verdict (under kinds parts now.last) now.instances a ≡ Enters
  enters e t = unanswered e ∙ ap (λ (b : Bool). if b then Enters else Drops Mistyped) t

  pub mistyped : ends_with_last seen.queue ≡ false → is_well_typed (under kinds parts now.last) seen a ≡ false → verdict (under kinds parts now.last) now.instances a ≡ Drops Mistyped
  mistyped e t = unanswered e ∙ ap (λ (b : Bool). if b then Enters else Drops Mistyped) t

  pub is_open : ends_with_last seen.queue ≡ false → IsOpenAt now.instances a.id place
  is_open e = record { held = seen; there = s.there; same = s.same; open_end = e }

-- the instances after the answer was put into the queue at the place

pub put_at : (now : Running) (last : ℕ) (items after : List Instance) (a : Answer) (place : ℕ) (seen put : Instance) → record { last = last; instances = items } ≡ now → IsRising items last → IsOpenAt now.instances a.id place → seen ≡ get_or items place seen → put ≡ record seen { queue = seen.queue ++ item_of a ∷ [] } → after ≡ slice_set items place put → after ≡ map (with_item a) items
put_at now last items after a place seen put view rise here is is_put is_after =
    let held : IsOpenAt items a.id place = subst (λ (r : Running). IsOpenAt r.instances a.id place) (sym view) here in
    let e : held.held ≡ seen = sym (is ∙ get_or_from_slice_get items place held.held seen held.there) in
    let f : record held.held { queue = held.held.queue ++ item_of a ∷ [] } ≡ put = ap (λ (x : Instance). record x { queue = x.queue ++ item_of a ∷ [] }) e ∙ sym is_put in
    is_after ∙ ap (slice_set items place) (sym f) ∙ sym (map-with_item-at a 0 items last place held.held rise held.there held.same)

pub put_rises : (last : ℕ) (items after : List Instance) (a : Answer) → IsRising items last → after ≡ map (with_item a) items → IsRising after last
put_rises last items after a rise is = subst (λ (xs : List Instance). IsRising xs last) (sym is) (Rise-with_item a 0 items last rise)

pub unchanged_rises : (last : ℕ) (items after : List Instance) → IsRising items last → after ≡ items → IsRising after last
unchanged_rises last items after rise is = subst (λ (xs : List Instance). IsRising xs last) (sym is) rise

set_back : (items : List Instance) (place : ℕ) (seen : Instance) → seen ≡ get_or items place seen → slice_set items place seen ≡ items
set_back items place seen is = ap (slice_set items place) is ∙ set-get_or items place seen

-- what stands there after a push that may fail
pub pushed_at : (now : Running) (last : ℕ) (items : List Instance) (a : Answer) (place : ℕ) (seen : Instance) (q : List Item) (r : Result (Unit {0}) NoMemory) (item : Item) → record { last = last; instances = items } ≡ now → IsRising items last → IsOpenAt now.instances a.id place → seen ≡ get_or items place seen → item ≡ item_of a → OnOk r (q ≡ seen.queue ++ item ∷ []) → OnErr r (q ≡ seen.queue)
    → OnOk r (slice_set items place (record seen { queue = q }) ≡ map (with_item a) items) × OnErr r (slice_set items place (record seen { queue = q }) ≡ items)
pushed_at now last items a place seen q (Ok u) item view rise here is is_item ok err = (
  put_at now last items (slice_set items place (record seen { queue = q })) a place seen (record seen { queue = q }) view rise here is
      (ap (λ (x : List Item). record seen { queue = x }) (ok ∙ ap (λ (x : Item). seen.queue ++ x ∷ []) is_item)) refl,
  tt,
)
pushed_at now last items a place seen q (Err u) item view rise here is is_item ok err =
    (tt, ap (λ (x : List Item). slice_set items place (record seen { queue = x })) err ∙ set_back items place seen is)

pub pushed_rises : (last : ℕ) (items after : List Instance) (a : Answer) (r : Result (Unit {0}) NoMemory) → IsRising items last → OnOk r (after ≡ map (with_item a) items) → OnErr r (after ≡ items) → IsRising after last
pushed_rises last items after a (Ok u) rise ok err = put_rises last items after a rise ok
pushed_rises last items after a (Err u) rise ok err = unchanged_rises last items after rise err

pub pushed_now : (now : Running) (last : ℕ) (items after : List Instance) (a : Answer) (r : Result (Unit {0}) NoMemory) → record { last = last; instances = items } ≡ now → OnOk r (after ≡ map (with_item a) items) → OnOk r (record { last = last; instances = after } ≡ record now { instances = map (with_item a) now.instances })
pushed_now now last items after a (Ok u) view ok = ap (λ (xs : List Instance). record { last = last; instances = xs }) ok ∙ ap (λ (w : Running). record w { instances = map (with_item a) w.instances }) view
pushed_now now last items after a (Err u) view ok = tt
