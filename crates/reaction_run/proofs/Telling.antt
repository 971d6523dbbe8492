-- What the effects of a reaction tell of one id, where instances stand in rising id.
use Rattle.std.proofs.Common.{◌≡◌, ℕ, ◌<◌, ◌≤◌, Bool, true, false, cond, Option, Some, None, List, [], ◌∷◌, ◌++◌, map, refl, ◌∙◌, ap, arith}
use Rattle.std.specs.Prelude.{◌==◌, IfSome, option_map, slice_get}
use Rattle.std.specs.List.{filter_map, cons_option}
use Rattle.std.specs.Option.{option_to_list}
use Rattle.std.proofs.lemmas.List.Elements.{filter-append}
use Rattle.std.proofs.lemmas.Bool.Decides.{nat_tests}
use Rattle.hh_base.specs.declared.item.Item.{Item}
use Rattle.exec_instance.specs.declared.answer.Answer.{Answer}
use Rattle.exec_instance.specs.declared.change.Change.{Change}
use Rattle.exec_instance.specs.declared.instance.Instance.{Instance}
use Rattle.exec_instance.specs.declared.effect.Effect.{Effect}
use Rattle.exec_instance.specs.declared.effect.Effect.TheVariants.{More, Ended, Killed, Suspended, Resumed}
use Rattle.exec_instance.specs.declared.table.Row.{Row}
use Rattle.exec_instance.specs.declared.table.Row.TheVariants as row
use Rattle.exec_instance.specs.Effects.{started, with_change, row_of, effect_in, old_effects, of_first, when}
use Rattle.exec_instance.specs.Entering.{Rules, Verdict, Enters, Drops, verdict, after, dropped, drops}
use Rattle.exec_instance.specs.Running.{holder, RiseFrom}
use Rattle.exec_instance.proofs.Holding.{eqb_differ}
use Rattle.reaction_run.specs.Told.{is_on, about}

-- an effect, if it is one, is on the instance i
abbrev pub IsOn : Instance → Option Effect → Type 0
IsOn i o = IfSome o (λ e. (id : ℕ) → is_on id e ≡ (i.id == id))

on_when : (i : Instance) (b : Bool) (o : Option Effect) → IsOn i o → IsOn i (when b o)
on_when i true o h = h
on_when i false o h = tt

on_more : (i : Instance) (o : Option Item) → IsOn i (option_map (λ a. More i.id a.value) o)
on_more i (Some a) = λ id. refl
on_more i None = tt

on_ended : (i : Instance) (o : Option Item) → IsOn i (option_map (λ a. Ended i.id a.value) o)
on_ended i (Some a) = λ id. refl
on_ended i None = tt

on_effect : (r : Row) (i : Instance) (c : Change) → IsOn i (effect_in r i c)
on_effect row.More i c = on_when i c.used (of_first More i) (on_more i (slice_get i.queue 0))
on_effect row.Ended i c = on_when i c.ended (of_first Ended i) (on_ended i (slice_get i.queue 0))
on_effect row.Killed i c = on_when i _ (Some (Killed i.id c.kill)) (λ id. refl)
on_effect row.Suspended i c = on_when i _ (Some (Suspended i.id c.suspend)) (λ id. refl)
on_effect row.Resumed i c = on_when i _ (Some (Resumed i.id c.resume)) (λ id. refl)

pub on_change : (r : Row) (i : Instance) (o : Option Change) → IsOn i (with_change r i o)
on_change r i (Some c) = on_effect r i c
on_change r i None = tt

-- what is told of an instance, if there is one
abbrev pub told_of : (Instance → Option Effect) → Option Instance → List Effect
told_of g (Some i) = option_to_list (g i)
told_of g None = []

about_one : (id : ℕ) (i : Instance) (o : Option Effect) (rest : List Effect) → IsOn i o → (i.id == id) ≡ false → about id (cons_option o rest) ≡ about id rest
about_one id i (Some e) rest on apart = ap (λ (b : Bool). cond b (e ∷ about id rest) (about id rest)) (on id ∙ apart)
about_one id i None rest on apart = refl

about_it : (id : ℕ) (i : Instance) (o : Option Effect) (rest : List Effect) → IsOn i o → (i.id == id) ≡ true → about id rest ≡ [] → about id (cons_option o rest) ≡ option_to_list o
about_it id i (Some e) rest on same none = ap (λ (b : Bool). cond b (e ∷ about id rest) (about id rest)) (on id ∙ same) ∙ ap (λ (es : List Effect). e ∷ es) none
about_it id i None rest on same none = none

at_most : (id n : ℕ) → (n == id) ≡ true → id ≤ n
at_most id n e = grind (arith, nat_tests)

module _ (g : Instance → Option Effect) (on : (i : Instance) → IsOn i (g i)) where
  none_about : (id low last : ℕ) (running : List Instance) → RiseFrom low running last → id ≤ low → about id (filter_map g running) ≡ []
  none_about id low last [] rise h = refl
  none_about id low last (i ∷ is) rise h =
      let f : low < i.id = rise.0 in
      about_one id i (g i) (filter_map g is) (on i) (eqb_differ i.id id (omega arith)) ∙ none_about id i.id last is rise.1 (omega arith)

  about_head : (id last : ℕ) (i : Instance) (is : List Instance) (b : Bool) → (i.id == id) ≡ b → (b ≡ true → id ≤ i.id) → RiseFrom i.id is last → about id (filter_map g is) ≡ told_of g (holder is id) → about id (cons_option (g i) (filter_map g is)) ≡ told_of g (cond b (Some i) (holder is id))
  about_head id last i is true same le rise rest = about_it id i (g i) (filter_map g is) (on i) same (none_about id i.id last is rise (le refl))
  about_head id last i is false apart le rise rest = about_one id i (g i) (filter_map g is) (on i) apart ∙ rest

  pub about_each : (id low last : ℕ) (running : List Instance) → RiseFrom low running last → about id (filter_map g running) ≡ told_of g (holder running id)
  about_each id low last [] rise = refl
  about_each id low last (i ∷ is) rise = about_head id last i is (i.id == id) refl (at_most id i.id) rise.1 (about_each id i.id last is rise.1)

-- one row of the table

abbrev pub row_told : Row → (ℕ → Option Change) → Option Instance → List Effect
row_told r change held = told_of (λ i. with_change r i (change i.id)) held

pub about_row : (r : Row) (change : ℕ → Option Change) (id low last : ℕ) (running : List Instance) → RiseFrom low running last → about id (row_of r change running) ≡ row_told r change (holder running id)
about_row r change id low last running rise = about_each (λ i. with_change r i (change i.id)) (λ i. on_change r i (change i.id)) id low last running rise

-- the rows on the instances that ran before

abbrev pub old_told : (ℕ → Option Change) → Option Instance → List Effect
old_told change held = row_told row.More change held ++ row_told row.Ended change held ++ row_told row.Killed change held ++ row_told row.Suspended change held ++ row_told row.Resumed change held

both_about : (id : ℕ) (xs ys xs' ys' : List Effect) → about id xs ≡ xs' → about id ys ≡ ys' → about id (xs ++ ys) ≡ xs' ++ ys'
both_about id xs ys xs' ys' e f = filter-append (is_on id) xs ys ∙ ap (λ (es : List Effect). es ++ about id ys) e ∙ ap (λ (es : List Effect). xs' ++ es) f

five_about : (id : ℕ) (m e k s r m' e' k' s' r' : List Effect) → about id m ≡ m' → about id e ≡ e' → about id k ≡ k' → about id s ≡ s' → about id r ≡ r' → about id (m ++ e ++ k ++ s ++ r) ≡ m' ++ e' ++ k' ++ s' ++ r'
five_about id m e k s r m' e' k' s' r' f g h i j =
    both_about id (m ++ e ++ k ++ s) r (m' ++ e' ++ k' ++ s') r' (both_about id (m ++ e ++ k) s (m' ++ e' ++ k') s' (both_about id (m ++ e) k (m' ++ e') k' (both_about id m e m' e' f g) h) i) j

pub about_old : (change : ℕ → Option Change) (id low last : ℕ) (running : List Instance) → RiseFrom low running last → about id (old_effects change running) ≡ old_told change (holder running id)
about_old change id low last running rise =
    let one = λ (r : Row). about_row r change id low last running rise in
    let rows = λ (r : Row). row_of r change running in
    let told = λ (r : Row). row_told r change (holder running id) in
    five_about id (rows row.More) (rows row.Ended) (rows row.Killed) (rows row.Suspended) (rows row.Resumed) (told row.More) (told row.Ended) (told row.Killed) (told row.Suspended) (told row.Resumed) (one row.More) (one row.Ended) (one row.Killed) (one row.Suspended) (one row.Resumed)

-- starts

abbrev pub start_of : Instance → Option Effect
start_of i = Some (started i)

starts_each : (is : List Instance) → map started is ≡ filter_map start_of is
starts_each [] = refl
starts_each (i ∷ is) = ap (λ (es : List Effect). started i ∷ es) (starts_each is)

pub about_starts : (id low last : ℕ) (new : List Instance) → RiseFrom low new last → about id (map started new) ≡ told_of start_of (holder new id)
about_starts id low last new rise = ap (about id) (starts_each new) ∙ about_each start_of (λ i id'. refl) id low last new rise

-- drops tell nothing of instances

no_drop : (id : ℕ) (v : Verdict) (a : Answer) (rest : List Effect) → about id rest ≡ [] → about id (dropped v a ++ rest) ≡ []
no_drop id Enters a rest e = e
no_drop id (Drops reason) a rest e = e

pub no_drops : (id : ℕ) (r : Rules) (answers : List Answer) (running : List Instance) → about id (drops r running answers) ≡ []
no_drops id r [] running = refl
no_drops id r (a ∷ rest) running = no_drop id (verdict r running a) a (drops r (after (verdict r running a) a running) rest) (no_drops id r rest (after (verdict r running a) a running))
