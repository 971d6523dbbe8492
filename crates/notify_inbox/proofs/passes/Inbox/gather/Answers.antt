use Rattle.std.proofs.Common.{rules, ◌≡◌, ◌∷◌, ◌++◌, [], List, All, map, sym, ap, ◌∙◌, subst, arith, length-append}
use Rattle.std.proofs.Math.ListN.{get_or-append}
use Rattle.std.proofs.lemmas.List.{map-append}
use Rattle.exec_instance.specs.declared.answer.Answer.{Answer}
use Rattle.notify_inbox.specs.declared.passes.PostPass.{PostPass}
use Rattle.notify_inbox.specs.declared.view.PassView.{PassView}
use Rattle.notify_inbox.specs.Views.{gathering}
use Rattle.notify_inbox.specs.Calls.{take_view, post_view, posts_in, IsPostPassOf}
use Rattle.notify_inbox.proofs.Moves.{merges, gathered_step}
use Rattle.notify_inbox.proofs.passes.Inbox.gather.Goals as goal

all_before : {X : Type 0} (P : X → Type 0) (xs : List X) (x : X) → All P (xs ++ x ∷ []) → All P xs
all_before P xs x all k d l =
    let n = length-append xs (x ∷ []) in subst P (get_or-append xs (x ∷ []) d k l) (all k d (omega arith))

pub absorb-requires-clause-rule : goal.absorb-requires-clause-rule
absorb-requires-clause-rule c =
    let one = c.in-Some.poster.part in merges _ _ _ _ c.loop-poster.pass.takes (omega arith) c.in-Some.poster.alone

pub loop-poster-preserved : goal.loop-poster-preserved
loop-poster-preserved c =
    let x = c.in-Some.poster in let rest = c.pop.new.self.items in let ls = map posts_in rest in
    let v = take_view c.loop-poster.pass in let P : PostPass → Type 0 = λ p. IsPostPassOf c.args.self.now p in
    let items : c.loop-poster.posters.items ≡ rest ++ x ∷ [] = c.in-Some.ensures.items in
    record {
      own = search rules;
      posters = all_before P rest x (subst (λ xs. All P xs) items c.loop-poster.invariant.posters);
      gathered = ap (λ (z : PassView Answer). gathering z ls) c.absorb.ensures.rule
          ∙ (gathered_step v (post_view x) ls x.only_posts x.part
          ∙ (ap (gathering v) (sym (ap (map posts_in) items ∙ map-append posts_in rest (x ∷ [])))
          ∙ c.loop-poster.invariant.gathered));
      empties = c.loop-poster.invariant.empties;
    }
