-- The end of a desk. (This project's own.)
use Rattle.std.specs.Prelude.{◌≡◌, ℕ, ◌<◌, ◌≤◌, List, [], ◌++◌, length}
use Rattle.exec_instance.specs.declared.answer.Answer.{Answer}
use Rattle.reaction_run.specs.declared.log.Entry.{Entry}
use Rattle.reaction_run.specs.Legal.{events_of, replies_in, tried}
use Rattle.turn_cell.specs.Lists.{total}
use Rattle.notify_inbox.specs.declared.limits.TheConstants.{INBOX_PLACES}
use Rattle.notify_inbox.specs.Rule.{EachStands, count_at, below}

-- each post was tried by an accepted reaction of the log, or is left: the posts are those that were tried,
-- and then those that are left
abbrev pub Accounts : List Answer → List Entry → List Answer → Type 0
Accounts posts log left = posts ≡ tried [] (events_of log) (replies_in log) ++ left

-- all posts are those that the log tried and those that are left, and then `rest`. Each of these passes'
-- posts stand among all posts, in their order, and no place twice. There is no rest where fewer than 4,096
-- answers are left, and where all passes are given; and then each place is that of a post of one of them
pub record Posted (log : List Entry) (left : List Answer) (passes : List (List (ℕ × Answer)))
    (posters : ℕ) : Type 0 where
  pub posts : List Answer
  pub rest : List Answer
  pub accounts : Accounts posts log left
  pub stand : EachStands (posts ++ rest) passes
  pub once : (p : ℕ) → total (count_at p) passes ≤ 1
  pub fewer : length left < INBOX_PLACES → rest ≡ []
  pub all : length passes ≡ posters → rest ≡ []
  pub every : length passes ≡ posters → (p : ℕ) → total (count_at p) passes ≡ below p (length posts)
