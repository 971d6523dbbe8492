-- Answers that are tried one after another, up to some place of their list.
use Rattle.std.proofs.Common.{◌≡◌, ℕ, suc, ◌+◌, ◌<◌, ◌≤◌, Bool, List, [], ◌∷◌, ◌++◌, length, map, take, drop, get_or, refl, sym, ◌∙◌, ap, subst, add-one, drop-cons, append-nil, append_assoc}
use Rattle.std.proofs.lemmas.List.{length-map}
use Rattle.std.proofs.Math.ListN.{drop_of_length-le}
use Rattle.std.specs.Prelude.{Result, Ok, Err, OnOk, OnErr, is_err, true, false}
use Rattle.hh_base.specs.declared.value.Kind.{Kind}
use Rattle.exec_instance.specs.declared.answer.Answer.{Answer}
use Rattle.exec_instance.specs.declared.instance.Instance.{Instance}
use Rattle.exec_instance.specs.declared.effect.Effect.{Effect}
use Rattle.exec_instance.specs.Running.{Running}
use Rattle.exec_instance.specs.Entering.{Rules, under, Verdict, Enters, Drops, verdict, after, entered, dropped, drops}
use Rattle.exec_instance.specs.Places.{queue_length, shortened}
use Rattle.exec_instance.proofs.Shortening.{Extends, Extends-itself, Extends-with_item, undone, length_extended}

-- the first k answers were tried: the rest of them leads from here to where all of them lead
pub record Trying (kinds : List Kind) (parts : Bool) (old now : Running) (all : List Answer) (k : ℕ) (out0 out : List Effect) : Type 0 where
  pub same_last : now.last ≡ old.last
  pub rest : entered (under kinds parts old.last) old.instances all ≡ entered (under kinds parts old.last) now.instances (drop k all)
  pub told : out0 ++ drops (under kinds parts old.last) old.instances all ≡ out ++ drops (under kinds parts old.last) now.instances (drop k all)
  pub extended : Extends old.instances now.instances
  pub added : List Effect
  pub added_is : out ≡ out0 ++ added

pub none_tried : (kinds : List Kind) (parts : Bool) (old : Running) (all : List Answer) (out : List Effect) → Trying kinds parts old old all 0 out out
none_tried kinds parts old all out = record { same_last = refl; rest = refl; told = refl; extended = Extends-itself old.instances; added = []; added_is = sym (append-nil out) }

extends_after : (v : Verdict) (a : Answer) (is js : List Instance) → Extends is js → Extends is (after v a js)
extends_after Enters a is js e = Extends-with_item a is js e
extends_after (Drops reason) a is js e = e

-- what a call's clauses say where its test told how it ended

pub on_err : {T E : Type 0} (r : Result T E) (P : Type 0) (told : Bool) → told ≡ is_err r → told ≡ true → OnErr r P → P
on_err (Ok v) P told is holds fact = absurd (let h : false ≡ true = sym is ∙ holds in cc)
on_err (Err e) P told is holds fact = fact

pub on_ok : {T E : Type 0} (r : Result T E) (P : Type 0) (told : Bool) → told ≡ is_err r → told ≡ false → OnOk r P → P
on_ok (Ok v) P told is not_err fact = fact
on_ok (Err e) P told is not_err fact = absurd (let h : true ≡ false = sym is ∙ not_err in cc)

module _ (kinds : List Kind) (parts : Bool) (old now : Running) (all : List Answer) (k : ℕ) (out0 out : List Effect) (t : Trying kinds parts old now all k out0 out) where
  pub one_more : (new : Running) (out' : List Effect) (a : Answer) → k < length all → a ≡ get_or all k a
      → new ≡ record now { instances = after (verdict (under kinds parts now.last) now.instances a) a now.instances } → out' ≡ out ++ dropped (verdict (under kinds parts now.last) now.instances a) a
      → Trying kinds parts old new all (k + 1) out0 out'
  one_more new out' a within is is_new is_out =
      let r : Rules = under kinds parts old.last in
      let e : under kinds parts now.last ≡ r = ap (under kinds parts) t.same_last in
      let f : new.instances ≡ after (verdict r now.instances a) a now.instances =
      ap (λ (w : Running). w.instances) is_new ∙ ap (λ (q : Rules). after (verdict q now.instances a) a now.instances) e in
      let g : out' ≡ out ++ dropped (verdict r now.instances a) a = is_out ∙ ap (λ (q : Rules). out ++ dropped (verdict q now.instances a) a) e in
      let here : drop k all ≡ a ∷ drop (k + 1) all =
      drop-cons all k a within ∙ ap (λ (x : Answer). x ∷ drop (suc k) all) (sym is) ∙ ap (λ (m : ℕ). a ∷ drop m all) (sym (add-one k)) in
      record {
        same_last = ap (λ (w : Running). w.last) is_new ∙ t.same_last;
        rest = t.rest ∙ ap (entered r now.instances) here ∙ ap (λ (is : List Instance). entered r is (drop (k + 1) all)) (sym f);
        told =
            t.told ∙ ap (λ (as' : List Answer). out ++ drops r now.instances as') here ∙ sym (append_assoc out (dropped (verdict r now.instances a) a) (drops r (after (verdict r now.instances a) a now.instances) (drop (k + 1) all)))
            ∙ ap (λ (o : List Effect). o ++ drops r (after (verdict r now.instances a) a now.instances) (drop (k + 1) all)) (sym g)
            ∙ ap (λ (is : List Instance). out' ++ drops r is (drop (k + 1) all)) (sym f);
        extended = subst (Extends old.instances) (sym f) (extends_after (verdict r now.instances a) a old.instances now.instances t.extended);
        added = t.added ++ dropped (verdict r now.instances a) a;
        added_is = g ∙ ap (λ (o : List Effect). o ++ dropped (verdict r now.instances a) a) t.added_is ∙ append_assoc out0 t.added (dropped (verdict r now.instances a) a);
      }

  pub all_entered : length all ≤ k → now ≡ record old { instances = entered (under kinds parts old.last) old.instances all }
  all_entered whole =
      ap (λ (n : ℕ). record now { last = n }) t.same_last
      ∙ ap (λ (is : List Instance). record old { instances = is }) (sym (t.rest ∙ ap (entered (under kinds parts old.last) now.instances) (drop_of_length-le all whole)))

  pub all_told : length all ≤ k → out ≡ out0 ++ drops (under kinds parts old.last) old.instances all
  all_told whole = sym (t.told ∙ ap (λ (as' : List Answer). out ++ drops (under kinds parts old.last) now.instances as') (drop_of_length-le all whole) ∙ append-nil out)

  pub lengths_fit : (ns : List ℕ) → ns ≡ map queue_length old.instances → length ns ≡ length now.instances
  lengths_fit ns e = ap length e ∙ length-map old.instances queue_length ∙ sym (length_extended old.instances now.instances t.extended)

  pub all_undone : (new : Running) (ns : List ℕ) → ns ≡ map queue_length old.instances → new ≡ record now { instances = shortened ns now.instances } → new ≡ old
  all_undone new ns e is_new =
      is_new ∙ ap (λ (ms : List ℕ). record now { instances = shortened ms now.instances }) e
      ∙ ap (λ (is : List Instance). record now { instances = is }) (undone old.instances now.instances t.extended)
      ∙ ap (λ (n : ℕ). record old { last = n }) t.same_last

  front : (xs ys : List Effect) → take (length xs) (xs ++ ys) ≡ xs
  front [] ys = refl
  front (x ∷ xs) ys = ap (λ (q : List Effect). x ∷ q) (front xs ys)

  pub all_untold : (n : ℕ) → n ≡ length out0 → take n out ≡ out0
  all_untold n e = ap (λ (m : ℕ). take m out) e ∙ ap (take (length out0)) t.added_is ∙ front out0 t.added
