-- The end of a desk.
use Rattle.std.proofs.Common.{◌≡◌, ℕ, ◌+◌, ◌-◌, ◌<◌, ◌≤◌, List, [], ◌∷◌, ◌++◌, length, map, refl, sym, ◌∙◌, ap, subst, arith, append-nil, append_assoc, length-append}
use Rattle.std.specs.Coded.{Coded-set, coded_list}
use Rattle.std.proofs.Math.Logic.{∥∥₁_elim}
use Rattle.exec_instance.specs.declared.answer.Answer.{Answer}
use Rattle.exec_instance.specs.contracts.answer.Answer as answer
use Rattle.turn_cell.specs.Lists.{total}
use Rattle.reaction_run.specs.declared.event.Event.{Event}
use Rattle.reaction_run.specs.declared.reply.Reply.{Reply}
use Rattle.reaction_run.specs.declared.log.Entry.{Entry}
use Rattle.reaction_run.specs.Machine.{Machine, State}
use Rattle.reaction_run.specs.Run.{replies, final_state}
use Rattle.reaction_run.specs.Legal.{Legal, events_of, replies_in, took_in, tried}
use Rattle.reaction_run.proofs.Keeping.{tried_once}
use Rattle.notify_inbox.specs.declared.view.PassView.{PassView}
use Rattle.notify_inbox.specs.declared.passes.TakePass.{TakePass}
use Rattle.notify_inbox.specs.Views.{taker, took_more, gathering}
use Rattle.notify_inbox.specs.Rule.{Gathers, EachStands, count_at, below}
use Rattle.notify_inbox.specs.Calls.{take_view, Drained}
use Rattle.reaction_desk.specs.Closing.{Accounts, Posted}

module _ {Place : Type 0} (M : Machine Place) where
  -- what the log took was tried, or waits in the machine
  took_one : (S T : State Place) (log : List Entry) → Legal M S log → S.pending ≡ [] → T ≡ final_state M S (events_of log) → tried [] (events_of log) (replies_in log) ++ T.pending ≡ took_in (events_of log)
  took_one S T log legal none stands =
      let es : List Event = events_of log in let F : List Answer = (final_state M S es).pending in
      ap (λ (U : State Place). tried [] es (replies_in log) ++ U.pending) stands ∙ ap (λ (rs : List Reply). tried [] es rs ++ F) legal
      ∙ subst (λ (p : List Answer). tried p es (replies M S es) ++ F ≡ p ++ took_in es) none (tried_once M S es)

  accounts : (S T : State Place) (log : List Entry) (rest : List Answer) → Legal M S log → ∥ T ≡ final_state M S (events_of log) ∥₁ → S.pending ≡ [] → Accounts (took_in (events_of log) ++ rest) log (T.pending ++ rest)
  accounts S T log rest legal stands none =
      let once : tried [] (events_of log) (replies_in log) ++ T.pending ≡ took_in (events_of log) =
      ∥∥₁_elim stands (Coded-set (coded_list answer.the_row.coded) (tried [] (events_of log) (replies_in log) ++ T.pending) (took_in (events_of log))) (λ is. took_one S T log legal none is) in
      ap (λ (l : List Answer). l ++ rest) (sym once) ∙ append_assoc (tried [] (events_of log) (replies_in log)) T.pending rest

  pub posted : (S T : State Place) (log : List Entry) → Legal M S log → ∥ T ≡ final_state M S (events_of log) ∥₁ → S.pending ≡ []
      → (v0 v1 : PassView Answer) (gathered drained : TakePass) (posters : ℕ) (waiting had left : List Answer) (lists : List (List (ℕ × Answer)))
      → posters ≤ 9 → v0 ≡ taker (16 - posters) → v1 ≡ took_more v0 (took_in (events_of log) ++ waiting) → take_view gathered ≡ gathering v1 lists
      → had ≡ T.pending ++ waiting → Drained gathered drained had left → Posted log left lists posters
  posted S T log legal stands none v0 v1 gathered drained posters waiting had left lists few first took gathers is d =
      let more : List Answer = d.more in let all : List Answer = took_in (events_of log) in
      let W : PassView Answer = gathering (took_more (taker (16 - posters)) (all ++ waiting)) lists in
      let is2 : take_view gathered ≡ W = gathers ∙ ap (λ (z : PassView Answer). gathering z lists) (took ∙ ap (λ (z : PassView Answer). took_more z (all ++ waiting)) first) in
      let is3 : take_view drained ≡ took_more W more = d.took.taken ∙ ap (λ (z : PassView Answer). took_more z more) is2 in
      let g : Gathers (((all ++ waiting) ++ more) ++ d.rest) (took_more W more) = subst (λ (z : PassView Answer). Gathers (z.took ++ d.rest) z) is3 d.posts in
      let nil : lists ++ [] ≡ lists = append-nil lists in
      let posts : List Answer = all ++ (waiting ++ more) in
      let same : (all ++ waiting) ++ more ≡ posts = append_assoc all waiting more in
      let parts : (take_view gathered).parts ≡ 16 - posters + length lists = ap (λ (z : PassView Answer). z.parts) is2 in
      let ends : T.pending ++ (waiting ++ more) ≡ left = sym (append_assoc T.pending waiting more) ∙ ap (λ (l : List Answer). l ++ more) (sym is) ∙ sym d.took.appended in
      let long : length left ≡ length had + length more = ap length d.took.appended ∙ length-append had more in
      let empty : length lists ≡ posters → d.rest ≡ [] = λ n. d.all (omega arith) in
      record {
        posts = posts;
        rest = d.rest;
        accounts = subst (λ (l : List Answer). Accounts posts log l) ends (accounts S T log (waiting ++ more) legal stands none);
        stand = subst (λ (l : List Answer). EachStands (l ++ d.rest) lists) same (subst (λ (ls : List (List (ℕ × Answer))). EachStands (((all ++ waiting) ++ more) ++ d.rest) ls) nil g.fits.gathered);
        once = λ p. let o = g.once p in let e : total (count_at p) (lists ++ []) ≡ total (count_at p) lists = ap (total (count_at p)) nil in omega arith;
        fewer = λ l. d.fewer (omega arith);
        all = empty;
        every = λ n p.
            let e : total (count_at p) (lists ++ []) ≡ total (count_at p) lists = ap (total (count_at p)) nil in
            let whole : ((all ++ waiting) ++ more) ++ d.rest ≡ posts = ap (λ (l : List Answer). ((all ++ waiting) ++ more) ++ l) (empty n) ∙ append-nil ((all ++ waiting) ++ more) ∙ same in
            let o = g.every (omega arith) p in
            let f : below p (length (((all ++ waiting) ++ more) ++ d.rest)) ≡ below p (length posts) = ap (λ (l : List Answer). below p (length l)) whole in
            omega arith;
      }
