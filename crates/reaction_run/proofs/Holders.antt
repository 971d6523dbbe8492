-- Which instance has an id, before a reaction and after it.
use Rattle.std.proofs.Common.{◌≡◌, ℕ, suc, ◌<◌, ◌≤◌, Bool, true, false, cond, Option, Some, None, List, [], ◌∷◌, ◌++◌, map, refl, sym, ◌∙◌, ap, arith, append-nil, append_assoc}
use Rattle.std.specs.Prelude.{◌==◌, ◌&&◌, if◌then◌else◌, IfSome, not, option_map, is_some}
use Rattle.std.specs.List.{cons_option}
use Rattle.std.specs.Option.{option_or}
use Rattle.std.proofs.lemmas.List.Folds.{find-append}
use Rattle.std.proofs.lemmas.List.{map-append}
use Rattle.std.proofs.lemmas.Bool.Decides.{nat_tests}
use Rattle.hh_base.specs.declared.value.Value.{Value}
use Rattle.exec_instance.specs.declared.answer.Answer.{Answer}
use Rattle.exec_instance.specs.declared.change.Change.{Change}
use Rattle.exec_instance.specs.declared.instance.Instance.{Instance}
use Rattle.exec_instance.specs.declared.effect.Reason.TheVariants.{Unknown}
use Rattle.exec_instance.specs.Effects.{new_args, born, last_after, kept, after_change, changed}
use Rattle.exec_instance.specs.Entering.{Rules, Verdict, Enters, Drops, was_given, verdict_at, verdict, after, entered, with_item, item_of}
use Rattle.exec_instance.specs.Running.{holder, RiseFrom}
use Rattle.exec_instance.proofs.Holding.{eqb_differ, with_item-id, Rise-with_item}
use Rattle.exec_instance.proofs.Advancing.{of_args, Rise-born}
use Rattle.reaction_run.specs.Told.{item_value, values_waiting, entering, values_entering}

from_test : (n id : ℕ) → (n == id) ≡ true → n ≡ id
from_test n id e = grind (arith, nat_tests)

found_head : (id : ℕ) (i j : Instance) (b : Bool) (rest : Option Instance) → (i.id == id) ≡ b → (rest ≡ Some j → j.id ≡ id) → cond b (Some i) rest ≡ Some j → j.id ≡ id
found_head id i j true rest same later e = let f : i ≡ j = cc in sym (ap (λ (x : Instance). x.id) f) ∙ from_test i.id id same
found_head id i j false rest apart later e = later e

pub found_id : (running : List Instance) (id : ℕ) (j : Instance) → holder running id ≡ Some j → j.id ≡ id
found_id [] id j e = cc
found_id (i ∷ is) id j e = found_head id i j (i.id == id) (holder is id) refl (found_id is id j) e

-- ids that rise lie within their bounds

pub held_above : (id low last : ℕ) (running : List Instance) → RiseFrom low running last → id ≤ low → holder running id ≡ None
held_above id low last [] rise h = refl
held_above id low last (i ∷ is) rise h =
    let f : low < i.id = rise.0 in
    ap (λ (b : Bool). cond b (Some i) (holder is id)) (eqb_differ i.id id (omega arith)) ∙ held_above id i.id last is rise.1 (omega arith)

below_last : (low last : ℕ) (running : List Instance) → RiseFrom low running last → low ≤ last
below_last low last [] rise = rise
below_last low last (i ∷ is) rise = let h : i.id ≤ last = below_last i.id last is rise.1 in let g : low < i.id = rise.0 in omega arith

within_head : (id last : ℕ) (i j : Instance) (b : Bool) (rest : Option Instance) → (i.id == id) ≡ b → i.id ≤ last → (rest ≡ Some j → id ≤ last) → cond b (Some i) rest ≡ Some j → id ≤ last
within_head id last i j true rest same le later e = let f : i.id ≡ id = from_test i.id id same in omega arith
within_head id last i j false rest apart le later e = later e

pub held_within : (id low last : ℕ) (running : List Instance) (j : Instance) → RiseFrom low running last → holder running id ≡ Some j → id ≤ last
held_within id low last [] j rise e = cc
held_within id low last (i ∷ is) j rise e = within_head id last i j (i.id == id) (holder is id) refl (below_last i.id last is rise.1) (held_within id i.id last is j rise.1) e

-- answers enter

holder_head : (id : ℕ) (a : Answer) (i : Instance) (b : Bool) (rest : Option Instance) → cond b (Some (with_item a i)) (option_map (with_item a) rest) ≡ option_map (with_item a) (cond b (Some i) rest)
holder_head id a i true rest = refl
holder_head id a i false rest = refl

holder_map : (id : ℕ) (a : Answer) (running : List Instance) → holder (map (with_item a) running) id ≡ option_map (with_item a) (holder running id)
holder_map id a [] = refl
holder_map id a (i ∷ is) =
    ap (λ (n : ℕ). cond (n == id) (Some (with_item a i)) (holder (map (with_item a) is) id)) (with_item-id a i)
    ∙ ap (λ (o : Option Instance). cond (i.id == id) (Some (with_item a i)) o) (holder_map id a is) ∙ holder_head id a i (i.id == id) (holder is id)

some_map : (a : Answer) (o : Option Instance) → is_some (option_map (with_item a) o) ≡ is_some o
some_map a (Some i) = refl
some_map a None = refl

some_after : (id : ℕ) (v : Verdict) (a : Answer) (running : List Instance) → is_some (holder (after v a running) id) ≡ is_some (holder running id)
some_after id Enters a running = ap (λ (o : Option Instance). is_some o) (holder_map id a running) ∙ some_map a (holder running id)
some_after id (Drops reason) a running = refl

pub some_entered : (id : ℕ) (r : Rules) (answers : List Answer) (running : List Instance) → is_some (holder (entered r running answers) id) ≡ is_some (holder running id)
some_entered id r [] running = refl
some_entered id r (a ∷ rest) running = some_entered id r rest (after (verdict r running a) a running) ∙ some_after id (verdict r running a) a running

rise_after : (v : Verdict) (a : Answer) (low last : ℕ) (running : List Instance) → RiseFrom low running last → RiseFrom low (after v a running) last
rise_after Enters a low last running rise = Rise-with_item a low running last rise
rise_after (Drops reason) a low last running rise = rise

pub rise_entered : (r : Rules) (answers : List Answer) (low last : ℕ) (running : List Instance) → RiseFrom low running last → RiseFrom low (entered r running answers) last
rise_entered r [] low last running rise = rise
rise_entered r (a ∷ rest) low last running rise = rise_entered r rest low last (after (verdict r running a) a running) (rise_after (verdict r running a) a low last running rise)

-- the values that wait after an answer: those that waited, and its own where it enters for the id

put_values : (id : ℕ) (a : Answer) (i : Instance) (b : Bool) → values_waiting (Some (if b then record i { queue = i.queue ++ item_of a ∷ [] } else i)) ≡ values_waiting (Some i) ++ (if b then a.value ∷ [] else [])
put_values id a i true = map-append item_value i.queue (item_of a ∷ [])
put_values id a i false = sym (append-nil (map item_value i.queue))

swap_test : (i a id : ℕ) → i ≡ id → (i == a) ≡ (a == id)
swap_test i a id e = grind (arith, nat_tests)

enters_some : (id : ℕ) (a : Answer) (i : Instance) → i.id ≡ id → values_waiting (Some (with_item a i)) ≡ values_waiting (Some i) ++ entering id Enters a
enters_some id a i e =
    put_values id a i (i.id == a.id) ∙ ap (λ (b : Bool). values_waiting (Some i) ++ (if b then a.value ∷ [] else [])) (swap_test i.id a.id id e)

stale_drops : (r : Rules) (a : Answer) (given : Bool) → (if given then verdict_at r None a else Drops Unknown) ≡ Enters → ⊥
stale_drops r a true e = cc
stale_drops r a false e = cc

no_holder : (id : ℕ) (r : Rules) (running : List Instance) (a : Answer) (b : Bool) → (a.id == id) ≡ b → holder running id ≡ None → verdict r running a ≡ Enters → (if b then a.value ∷ [] else []) ≡ []
no_holder id r running a true same none enters =
    absurd
    (stale_drops r a (was_given r.last a.id)
    (ap (λ (o : Option Instance). if was_given r.last a.id then verdict_at r o a else Drops Unknown) (sym (ap (λ (n : ℕ). holder running n) (from_test a.id id same) ∙ none)) ∙ enters))
no_holder id r running a false apart none enters = refl

enters_held : (id : ℕ) (r : Rules) (running : List Instance) (a : Answer) (held : Option Instance) → holder running id ≡ held → verdict r running a ≡ Enters → values_waiting (option_map (with_item a) held) ≡ values_waiting held ++ entering id Enters a
enters_held id r running a (Some i) is enters = enters_some id a i (found_id running id i is)
enters_held id r running a None is enters = sym (no_holder id r running a (a.id == id) refl is enters)

waits_after : (id : ℕ) (r : Rules) (running : List Instance) (a : Answer) (v : Verdict) → verdict r running a ≡ v → values_waiting (holder (after v a running) id) ≡ values_waiting (holder running id) ++ entering id v a
waits_after id r running a Enters is = ap values_waiting (holder_map id a running) ∙ enters_held id r running a (holder running id) refl is
waits_after id r running a (Drops reason) is = sym (append-nil (values_waiting (holder running id)))

pub waits_entered : (id : ℕ) (r : Rules) (answers : List Answer) (running : List Instance) → values_waiting (holder (entered r running answers) id) ≡ values_waiting (holder running id) ++ values_entering id r running answers
waits_entered id r [] running = sym (append-nil (values_waiting (holder running id)))
waits_entered id r (a ∷ rest) running =
    let v : Verdict = verdict r running a in
    waits_entered id r rest (after v a running) ∙ ap (λ (vs : List Value). vs ++ values_entering id r (after v a running) rest) (waits_after id r running a v refl)
    ∙ append_assoc (values_waiting (holder running id)) (entering id v a) (values_entering id r (after v a running) rest)

-- instances that run on

abbrev pub kept_of : (ℕ → Option Change) → Option Instance → Option Instance
kept_of f (Some i) = after_change i (f i.id)
kept_of f None = None

if_same_id : (b : Bool) (i j : Instance) → j.id ≡ i.id → IfSome (if b then Some j else None) (λ k. k.id ≡ i.id)
if_same_id true i j e = e
if_same_id false i j e = tt

after_id : (i : Instance) (o : Option Change) → IfSome (after_change i o) (λ j. j.id ≡ i.id)
after_id i (Some c) = if_same_id (not c.ended && c.runs_after) i (changed i c) refl
after_id i None = refl

kept_head : (f : ℕ → Option Change) (id : ℕ) (i : Instance) (b : Bool) (o : Option Instance) (later : List Instance) (rest : Option Instance) → (i.id == id) ≡ b → IfSome o (λ j. j.id ≡ i.id) → holder later id ≡ kept_of f rest → (b ≡ true → rest ≡ None) → o ≡ after_change i (f i.id) → holder (cons_option o later) id ≡ kept_of f (cond b (Some i) rest)
kept_head f id i true (Some j) later rest same e here none is = ap (λ (n : ℕ). cond (n == id) (Some j) (holder later id)) e ∙ ap (λ (b : Bool). cond b (Some j) (holder later id)) same ∙ is
kept_head f id i true None later rest same e here none is = here ∙ ap (kept_of f) (none refl) ∙ is
kept_head f id i false (Some j) later rest apart e here none is = ap (λ (n : ℕ). cond (n == id) (Some j) (holder later id)) e ∙ ap (λ (b : Bool). cond b (Some j) (holder later id)) apart ∙ here
kept_head f id i false None later rest apart e here none is = here

above_head : (id last : ℕ) (i : Instance) (is : List Instance) → RiseFrom i.id is last → (i.id == id) ≡ true → holder is id ≡ None
above_head id last i is rise same = let e : i.id ≡ id = from_test i.id id same in held_above id i.id last is rise (omega arith)

pub holder_kept : (f : ℕ → Option Change) (id low last : ℕ) (running : List Instance) → RiseFrom low running last → holder (kept f running) id ≡ kept_of f (holder running id)
holder_kept f id low last [] rise = refl
holder_kept f id low last (i ∷ is) rise =
    kept_head f id i (i.id == id) (after_change i (f i.id)) (kept f is) (holder is id) refl (after_id i (f i.id)) (holder_kept f id i.id last is rise.1) (above_head id last i is rise.1) refl

-- new instances

pub born_above : (id last : ℕ) (cs : List Change) → id ≤ last → holder (born last cs) id ≡ None
born_above id last cs h = held_above id last (last_after last cs) (born last cs) (Rise-born cs last) h

no_values : (b : Bool) (i : Instance) (rest : Option Instance) → i.queue ≡ [] → values_waiting rest ≡ [] → values_waiting (cond b (Some i) rest) ≡ []
no_values true i rest e later = ap (map item_value) e
no_values false i rest e later = later

args_empty : (id last : ℕ) (c : Change) (cs : List Change) (o : Option (List Value)) → ((n : ℕ) → values_waiting (holder (born n cs) id) ≡ []) → values_waiting (holder (of_args last c cs o) id) ≡ []
args_empty id last c cs (Some args) rest = no_values (suc last == id) (record { id = suc last; body = c.body; args = args; queue = []; suspended = false }) (holder (born (suc last) cs) id) refl (rest (suc last))
args_empty id last c cs None rest = rest last

pub born_empty : (id : ℕ) (cs : List Change) (last : ℕ) → values_waiting (holder (born last cs) id) ≡ []
born_empty id [] last = refl
born_empty id (c ∷ cs) last = args_empty id last c cs (new_args c) (born_empty id cs)

-- the instance that has the id after a reaction

pub holder_advanced : (f : ℕ → Option Change) (id last : ℕ) (cs : List Change) (running : List Instance) → RiseFrom 0 running last → holder (kept f running ++ born last cs) id ≡ option_or (kept_of f (holder running id)) (holder (born last cs) id)
holder_advanced f id last cs running rise = find-append (λ i. i.id == id) (kept f running) (born last cs) ∙ ap (λ (o : Option Instance). option_or o (holder (born last cs) id)) (holder_kept f id 0 last running rise)
