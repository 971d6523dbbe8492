-- The end of the inbox.
use Rattle.std.proofs.Common.{◌≡◌, ℕ, Bool, true, false, MatchBool, List, [], ◌++◌, length, sym, ap, refl}
use Rattle.std.proofs.Common.{◌∙◌, subst, arith}
use Rattle.exec_instance.specs.declared.answer.Answer.{Answer}
use Rattle.notify_inbox.specs.declared.view.PassView.{PassView}
use Rattle.notify_inbox.specs.declared.passes.TakePass.{TakePass}
use Rattle.notify_inbox.specs.Views.{took_more}
use Rattle.notify_inbox.specs.Rule.{Gathers, FollowsTaken}
use Rattle.notify_inbox.specs.Calls.{take_view, RanDry, CountedOneAtMost, Took, TookUpTo, Drained}
use Rattle.notify_inbox.proofs.Moves.{empty, ran_out}

-- what was taken behind a look at the queue, and before one
took_beside : (old seen new last : TakePass) (had has more : List Answer) → take_view seen ≡ take_view old → seen.empties ≡ old.empties
    → take_view last ≡ take_view new → last.empties ≡ new.empties → Took seen new had has more → Took old last had has more
took_beside old seen new last had has more same count same' count' took =
    record {
      appended = took.appended;
      taken = same' ∙ (took.taken ∙ ap (λ (v : PassView Answer). took_more v more) same);
      counted =
          subst (λ (n : ℕ). CountedOneAtMost old.empties n) (sym count') (subst
          (λ (n : ℕ). CountedOneAtMost n new.empties) count took.counted);
    }

pub dry : (old seen new : TakePass) (had has : List Answer) (b : Bool) → take_view seen ≡ take_view old → seen.empties ≡ old.empties
    → b ≡ true → TookUpTo 4096 b seen new had has → Drained old new had has
dry old seen new had has b same count is took =
    let ran : RanDry seen new = subst (λ (z : Bool). MatchBool z (RanDry seen new) (length took.more ≡ 4096)) is took.end in
    let left = ran.empty in
    let none : left.0 ≡ [] = empty left.0 left.1 in
    record {
      more = took.more;
      took = took_beside old seen new new had has took.more same count refl refl took.took;
      few = took.few;
      rest = left.0;
      posts = left.2.gathers;
      fewer = λ _. none;
      all = λ _. none;
    }

pub full : (old seen new last : TakePass) (had has : List Answer) (b : Bool) → take_view seen ≡ take_view old → seen.empties ≡ old.empties
    → take_view last ≡ take_view new → last.empties ≡ new.empties → b ≡ false
    → ((items : List Answer) × FollowsTaken (take_view old) items) → ((items : List Answer) × FollowsTaken (take_view new) items)
    → TookUpTo 4096 b seen new had has → Drained old last had has
full old seen new last had has b same count same' count' is first then took =
    let most : length took.more ≡ 4096 = subst (λ (z : Bool). MatchBool z (RanDry seen new) (length took.more ≡ 4096)) is took.end in
    let taken : take_view new ≡ took_more (take_view old) took.more =
    took.took.taken ∙ ap (λ (v : PassView Answer). took_more v took.more) same in
    record {
      more = took.more;
      took = took_beside old seen new last had has took.more same count same' count' took.took;
      few = took.few;
      rest = then.0;
      posts = subst (λ (v : PassView Answer). Gathers (v.took ++ then.0) v) (sym same') then.1.gathers;
      fewer = λ l. absurd (omega arith);
      all = λ k. ran_out (take_view old) (take_view new) first.0 took.more then.0 taken first.1 then.1 most k;
    }
