-- Touches in the order of their sites: what becomes of the instance with an id, and how many are new.
use Rattle.std.proofs.Common.{◌≡◌, ℕ, zero, suc, ◌+◌, ◌≤◌, Bool, true, false, cond, Option, Some, None, List, [], ◌∷◌, map, length, refl, sym, ◌∙◌, ap, arith}
use Rattle.std.specs.Prelude.{◌==◌, ◌&&◌, ◌||◌, not, is_none, if◌then◌else◌, nat_le}
use Rattle.std.specs.List.{filter, list_all}
use Rattle.std.proofs.lemmas.Bool.Decides.{nat_tests}
use Rattle.hh_base.specs.declared.value.Value.{Value}
use Rattle.hh_term.specs.Kernel.{Kernel}
use Rattle.hh_term.specs.Touches.{Touch, in_place, by_site, new_id, numbered}
use Rattle.exec_instance.specs.declared.change.Change.{Change}
use Rattle.exec_instance.specs.Changes.{change_of}
use Rattle.exec_instance.specs.Effects.{born}
use Rattle.exec_instance.proofs.Advancing.{of_args}
use Rattle.term_machine.specs.Standing.{times}
use Rattle.term_machine.specs.ConstructiveMachine.{change_by}
use Rattle.term_machine.proofs.Tracking.{id_of, is_old, goes_on, old_ids, going_ids, is_fair}
use Rattle.term_machine.proofs.Numbering.{one_if, zeros}

-- sums over touches do not depend on their order

abbrev pub total : (Touch → ℕ) → List Touch → ℕ
total w [] = 0
total w (t ∷ ts) = w t + total w ts

total_if : (w : Touch → ℕ) (t u : Touch) (us : List Touch) (b : Bool) → total w (in_place t us) ≡ w t + total w us → total w (cond b (t ∷ u ∷ us) (u ∷ in_place t us)) ≡ w t + (w u + total w us)
total_if w t u us true h = refl
total_if w t u us false h = ap (λ (n : ℕ). w u + n) h ∙ swap (w u) (w t) (total w us)
  where
    swap : (a b c : ℕ) → a + (b + c) ≡ b + (a + c)
    swap a b c = omega arith

total_in_place : (w : Touch → ℕ) (t : Touch) (us : List Touch) → total w (in_place t us) ≡ w t + total w us
total_in_place w t [] = refl
total_in_place w t (u ∷ us) = total_if w t u us (nat_le t.site u.site) (total_in_place w t us)

pub total_by_site : (w : Touch → ℕ) (ts : List Touch) → total w (by_site ts) ≡ total w ts
total_by_site w [] = refl
total_by_site w (t ∷ ts) = total_in_place w t (by_site ts) ∙ ap (λ (n : ℕ). w t + n) (total_by_site w ts)

-- the sums that matter: old touches with an id, touches with an id that run on, new ones that run on, unfair ones

abbrev pub old_with : ℕ → Touch → ℕ
old_with id t = one_if (is_none t.started && (t.id == id))

abbrev pub going_with : ℕ → Touch → ℕ
going_with id t = one_if (t.runs_after && (t.id == id))

abbrev pub is_new : Touch → ℕ
is_new t = one_if (new_id t.started t.runs_after)

abbrev pub unfair : Touch → ℕ
unfair t = one_if (not (is_fair t))

times_if : (b c : Bool) (n : ℕ) (id i : ℕ) (is : List ℕ) → (i == id) ≡ c → times id is ≡ n → times id (cond b (i ∷ is) is) ≡ one_if (b && c) + n
times_if true true n id i is e h = ap (λ (x : Bool). cond x (suc (times id is)) (times id is)) e ∙ ap suc h ∙ one_more n
  where
    one_more : (n : ℕ) → suc n ≡ 1 + n
    one_more n = omega arith
times_if true false n id i is e h = ap (λ (x : Bool). cond x (suc (times id is)) (times id is)) e ∙ h ∙ no_more n
  where
    no_more : (n : ℕ) → n ≡ 0 + n
    no_more n = omega arith
times_if false c n id i is e h = h ∙ no_more n
  where
    no_more : (n : ℕ) → n ≡ 0 + n
    no_more n = omega arith

map_if : (b : Bool) (t : Touch) (ts : List Touch) → map id_of (cond b (t ∷ ts) ts) ≡ cond b (t.id ∷ map id_of ts) (map id_of ts)
map_if true t ts = refl
map_if false t ts = refl

pub old_times : (id : ℕ) (ts : List Touch) → times id (old_ids ts) ≡ total (old_with id) ts
old_times id [] = refl
old_times id (t ∷ ts) = ap (times id) (map_if (is_none t.started) t (filter is_old ts)) ∙ times_if (is_none t.started) (t.id == id) (total (old_with id) ts) id t.id (old_ids ts) refl (old_times id ts)

pub going_times : (id : ℕ) (ts : List Touch) → times id (going_ids ts) ≡ total (going_with id) ts
going_times id [] = refl
going_times id (t ∷ ts) = ap (times id) (map_if t.runs_after t (filter goes_on ts)) ∙ times_if t.runs_after (t.id == id) (total (going_with id) ts) id t.id (going_ids ts) refl (going_times id ts)

zero_head : (n : ℕ) (is : List ℕ) → zeros is ≡ times 0 is → zeros (n ∷ is) ≡ times 0 (n ∷ is)
zero_head zero is h = ap suc h
zero_head (suc n) is h = h ∙ sym (ap (λ (b : Bool). cond b (suc (times 0 is)) (times 0 is)) (apart n))
  where
    apart : (n : ℕ) → (suc n == 0) ≡ false
    apart n = grind (arith, nat_tests)

pub zeros_times : (is : List ℕ) → zeros is ≡ times 0 is
zeros_times [] = refl
zeros_times (n ∷ is) = zero_head n is (zeros_times is)

fair_if : (b : Bool) (n : ℕ) → b ≡ true → n ≡ 0 → one_if (not b) + n ≡ 0
fair_if true n e h = omega arith
fair_if false n e h = cc

and_parts : (a b : Bool) → a && b ≡ true → (a ≡ true) × (b ≡ true)
and_parts true b e = (refl, e)
and_parts false b e = cc

pub none_unfair : (ts : List Touch) → list_all is_fair ts ≡ true → total unfair ts ≡ 0
none_unfair [] h = refl
none_unfair (t ∷ ts) h = let p = and_parts (is_fair t) (list_all is_fair ts) h in fair_if (is_fair t) (total unfair ts) p.0 (none_unfair ts p.1)

-- one touch

one_zero : (b : Bool) (n : ℕ) → one_if b + n ≡ 0 → (b ≡ false) × (n ≡ 0)
one_zero true n e = absurd (omega arith)
one_zero false n e = (refl, omega arith)

not_false : (b : Bool) → not b ≡ false → b ≡ true
not_false true e = refl
not_false false e = cc

fair_head : (t : Touch) (n : ℕ) → unfair t + n ≡ 0 → (is_fair t ≡ true) × (n ≡ 0)
fair_head t n e = let p = one_zero (not (is_fair t)) n e in (not_false (is_fair t) p.0, p.1)

id_differs : (n id : ℕ) → (n == 0) ≡ true → 1 ≤ id → (n == id) ≡ false
id_differs n id e h = grind (arith, nat_tests)

-- of a fair touch that is not an old one with the id, nothing runs on with it
gone_with : (started : Option (List Value)) (used ended runs : Bool) (n id : ℕ) → not (used && ended) && not (ended && runs) && (is_none started || (n == 0)) ≡ true → 1 ≤ id → is_none started && (n == id) ≡ false → runs && (n == id) ≡ false
gone_with (Some args) used ended runs n id h g e = last_and runs (n == id) (id_differs n id (and_parts (not (used && ended) && not (ended && runs)) (n == 0) h).1 g)
  where
    last_and : (a b : Bool) → b ≡ false → a && b ≡ false
    last_and true b e = e
    last_and false b e = refl
gone_with None used ended runs n id h g e = last_and runs (n == id) e
  where
    last_and : (a b : Bool) → b ≡ false → a && b ≡ false
    last_and true b e = e
    last_and false b e = refl

no_more : (n : ℕ) → 0 + n ≡ n
no_more n = omega arith

pub none_going : (id : ℕ) (ts : List Touch) → 1 ≤ id → total unfair ts ≡ 0 → total (old_with id) ts ≡ 0 → total (going_with id) ts ≡ 0
none_going id [] h f e = refl
none_going id (t ∷ ts) h f e =
    let p = fair_head t (total unfair ts) f in
    let q = one_zero (is_none t.started && (t.id == id)) (total (old_with id) ts) e in
    ap (λ (b : Bool). one_if b + total (going_with id) ts) (gone_with t.started t.used t.ended t.runs_after t.id id p.0 h q.0) ∙ no_more (total (going_with id) ts) ∙ none_going id ts h p.1 q.1

-- the change of a running instance, and whether it runs on

abbrev is_it : ℕ → Touch → Bool
is_it id t = is_none t.started && (t.id == id)

pub record Found (K : Kernel) (id : ℕ) (us : List Touch) (n last : ℕ) : Type 0 where
  pub touch : Touch
  pub found : change_of (map (change_by K) (numbered last us)) id ≡ Some (change_by K touch)
  pub runs : one_if (not touch.ended && touch.runs_after) ≡ n

goes_if_fair : (used ended runs rest : Bool) → not (used && ended) && not (ended && runs) && rest ≡ true → not ended && runs ≡ runs
goes_if_fair used true true rest h = let e = and_parts (not (used && true) && false) rest h in let g = and_parts (not (used && true)) false e.0 in cc
goes_if_fair used true false rest h = refl
goes_if_fair used false runs rest h = refl

not_new : (started : Option (List Value)) (runs b : Bool) → is_none started && b ≡ true → new_id started runs ≡ false
not_new (Some args) runs b e = cc
not_new None runs b e = refl

new_started : (started : Option (List Value)) (runs : Bool) → new_id started runs ≡ true → is_none started ≡ false
new_started (Some args) runs e = refl
new_started None runs e = cc

and_false : (a b : Bool) → a ≡ false → a && b ≡ false
and_false a b e = ap (λ (x : Bool). x && b) e

-- the touch at the head has the id
found_here : (K : Kernel) (id last : ℕ) (t : Touch) (ts : List Touch) → 1 ≤ id → is_fair t ≡ true → total unfair ts ≡ 0 → is_none t.started && (t.id == id) ≡ true → total (old_with id) ts ≡ 0 → Found K id (t ∷ ts) (going_with id t + total (going_with id) ts) last
found_here K id last t ts h fair rest_fair it none =
    record {
      touch = t;
      found =
          ap (λ (b : Bool). change_of (map (change_by K) (cond b (record t { id = suc last } ∷ numbered (suc last) ts) (t ∷ numbered last ts))) id) (not_new t.started t.runs_after (t.id == id) it)
          ∙ ap (λ (b : Bool). cond b (Some (change_by K t)) (change_of (map (change_by K) (numbered last ts)) id)) it;
      runs =
          ap one_if (goes_if_fair t.used t.ended t.runs_after (is_none t.started || (t.id == 0)) fair) ∙ same_runs t.runs_after (t.id == id) (and_parts (is_none t.started) (t.id == id) it).1
          ∙ ap (λ (n : ℕ). going_with id t + n) (sym (none_going id ts h rest_fair none));
    }
  where
    plus_none : (n : ℕ) → n ≡ n + 0
    plus_none n = omega arith

    same_runs : (r b : Bool) → b ≡ true → one_if r ≡ one_if (r && b) + 0
    same_runs true b e = ap one_if (sym e) ∙ plus_none (one_if b)
    same_runs false b e = refl

-- it does not
found_later : (K : Kernel) (id last : ℕ) (t : Touch) (ts : List Touch) (n : ℕ) (new : Bool) → new_id t.started t.runs_after ≡ new → is_none t.started && (t.id == id) ≡ false → ((next : ℕ) → Found K id ts n next)
    → (u : Touch) × (change_of (map (change_by K) (cond new (record t { id = suc last } ∷ numbered (suc last) ts) (t ∷ numbered last ts))) id ≡ Some (change_by K u)) × (one_if (not u.ended && u.runs_after) ≡ n)
found_later K id last t ts n true is apart rest =
    let r = rest (suc last) in
    (r.touch, ap (λ (b : Bool). cond b (Some (change_by K (record t { id = suc last }))) (change_of (map (change_by K) (numbered (suc last) ts)) id)) (and_false (is_none t.started) (suc last == id) (new_started t.started t.runs_after is)) ∙ r.found, r.runs)
found_later K id last t ts n false is apart rest =
    let r = rest last in
    (r.touch, ap (λ (b : Bool). cond b (Some (change_by K t)) (change_of (map (change_by K) (numbered last ts)) id)) apart ∙ r.found, r.runs)

found_head : (K : Kernel) (id last : ℕ) (t : Touch) (ts : List Touch) (b : Bool) → 1 ≤ id → is_fair t ≡ true → total unfair ts ≡ 0 → is_none t.started && (t.id == id) ≡ b → one_if b + total (old_with id) ts ≡ 1
    → (total (old_with id) ts ≡ 1 → (next : ℕ) → Found K id ts (total (going_with id) ts) next) → Found K id (t ∷ ts) (going_with id t + total (going_with id) ts) last
found_head K id last t ts true h fair rest_fair it one later = found_here K id last t ts h fair rest_fair it (omega arith)
found_head K id last t ts false h fair rest_fair apart one later =
    let r = found_later K id last t ts (total (going_with id) ts) (new_id t.started t.runs_after) refl apart (later (omega arith)) in
    record {
      touch = r.0;
      found = r.1;
      runs = r.2 ∙ sym (no_more (total (going_with id) ts)) ∙ ap (λ (b : Bool). one_if b + total (going_with id) ts) (sym (gone_with t.started t.used t.ended t.runs_after t.id id fair h apart));
    }

pub found_change : (K : Kernel) (id : ℕ) (us : List Touch) (last : ℕ) → 1 ≤ id → total unfair us ≡ 0 → total (old_with id) us ≡ 1 → Found K id us (total (going_with id) us) last
found_change K id [] last h f e = absurd (omega arith)
found_change K id (t ∷ ts) last h f e =
    let p = fair_head t (total unfair ts) f in
    found_head K id last t ts (is_none t.started && (t.id == id)) h p.0 p.1 refl e (λ g next. found_change K id ts next h p.1 g)

-- new instances

born_one : (K : Kernel) (t : Touch) (cs : List Change) (started : Option (List Value)) (runs : Bool) (n : ℕ) → ((l : ℕ) → length (born l cs) ≡ n) → (last : ℕ) → length (of_args last (change_by K t) cs (if runs then started else None)) ≡ one_if (new_id started runs) + n
born_one K t cs (Some args) true n rest last = ap suc (rest (suc last)) ∙ one_more n
  where
    one_more : (n : ℕ) → suc n ≡ 1 + n
    one_more n = omega arith
born_one K t cs (Some args) false n rest last = rest last ∙ sym (no_more n)
born_one K t cs None true n rest last = rest last ∙ sym (no_more n)
born_one K t cs None false n rest last = rest last ∙ sym (no_more n)

born_touch : (K : Kernel) (t : Touch) (ts : List Touch) (b : Bool) (l last n : ℕ) → ((l : ℕ) (last : ℕ) → length (born last (map (change_by K) (numbered l ts))) ≡ n) → length (born last (map (change_by K) (cond b (record t { id = suc l } ∷ numbered (suc l) ts) (t ∷ numbered l ts)))) ≡ is_new t + n
born_touch K t ts true l last n rest = born_one K (record t { id = suc l }) (map (change_by K) (numbered (suc l) ts)) t.started t.runs_after n (λ k. rest (suc l) k) last
born_touch K t ts false l last n rest = born_one K t (map (change_by K) (numbered l ts)) t.started t.runs_after n (λ k. rest l k) last

pub born_count : (K : Kernel) (us : List Touch) (l last : ℕ) → length (born last (map (change_by K) (numbered l us))) ≡ total is_new us
born_count K [] l last = refl
born_count K (t ∷ ts) l last = born_touch K t ts (new_id t.started t.runs_after) l last (total is_new ts) (λ k n. born_count K ts k n)

-- those that run on with the id 0 are the new ones

new_zero : (started : Option (List Value)) (used ended runs : Bool) (n : ℕ) → not (used && ended) && not (ended && runs) && (is_none started || (n == 0)) ≡ true → is_none started && (n == 0) ≡ false → runs && (n == 0) ≡ new_id started runs
new_zero (Some args) used ended runs n h e = ap (λ (b : Bool). runs && b) (and_parts (not (used && ended) && not (ended && runs)) (n == 0) h).1 ∙ and_true runs
  where
    and_true : (b : Bool) → b && true ≡ b
    and_true true = refl
    and_true false = refl
new_zero None used ended runs n h e = ap (λ (b : Bool). runs && b) e ∙ and_none runs
  where
    and_none : (b : Bool) → b && false ≡ false
    and_none true = refl
    and_none false = refl

pub new_going : (ts : List Touch) → total unfair ts ≡ 0 → total (old_with 0) ts ≡ 0 → total (going_with 0) ts ≡ total is_new ts
new_going [] f e = refl
new_going (t ∷ ts) f e =
    let p = fair_head t (total unfair ts) f in
    let q = one_zero (is_none t.started && (t.id == 0)) (total (old_with 0) ts) e in
    ap (λ (b : Bool). one_if b + total (going_with 0) ts) (new_zero t.started t.used t.ended t.runs_after t.id p.0 q.0) ∙ ap (λ (n : ℕ). is_new t + n) (new_going ts p.1 q.1)

-- no change uses an answer and ends

pub uses_one_each : (K : Kernel) (us : List Touch) (last : ℕ) → total unfair us ≡ 0 → list_all (λ c. not (c.used && c.ended)) (map (change_by K) (numbered last us)) ≡ true
uses_one_each K [] last f = refl
uses_one_each K (t ∷ ts) last f =
    let p = fair_head t (total unfair ts) f in
    at (new_id t.started t.runs_after) (and_parts (not (t.used && t.ended)) (not (t.ended && t.runs_after)) (and_parts (not (t.used && t.ended) && not (t.ended && t.runs_after)) (is_none t.started || (t.id == 0)) p.0).0).0 (λ l. uses_one_each K ts l p.1)
  where
    both : (a b : Bool) → a ≡ true → b ≡ true → a && b ≡ true
    both true b e h = h
    both false b e h = cc

    at : (b : Bool) → not (t.used && t.ended) ≡ true → ((l : ℕ) → list_all (λ c. not (c.used && c.ended)) (map (change_by K) (numbered l ts)) ≡ true) → list_all (λ c. not (c.used && c.ended)) (map (change_by K) (cond b (record t { id = suc last } ∷ numbered (suc last) ts) (t ∷ numbered last ts))) ≡ true
    at true e rest = both (not (t.used && t.ended)) _ e (rest (suc last))
    at false e rest = both (not (t.used && t.ended)) _ e (rest last)
