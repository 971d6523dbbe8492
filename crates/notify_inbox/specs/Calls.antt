-- What the calls of an inbox tell. (This project's own.)
use Rattle.std.specs.Prelude.{◌≡◌, ℕ, ◌+◌, ◌-◌, ◌^◌, ◌<◌, ◌≤◌, ◌⊎◌, Bool, MatchBool, List, [], ◌++◌, length}
use Rattle.crossbeam_queue.specs.Fifo.{Held}
use Rattle.crossbeam_queue.specs.Passes.{view, IsPassOf}
use Rattle.exec_instance.specs.declared.answer.Answer.{Answer}
use Rattle.notify_inbox.specs.declared.view.PassView.{PassView}
use Rattle.notify_inbox.specs.declared.passes.Inbox.{Inbox}
use Rattle.notify_inbox.specs.declared.passes.TakePass.{TakePass}
use Rattle.notify_inbox.specs.declared.passes.PostPass.{PostPass}
use Rattle.notify_inbox.specs.declared.limits.TheConstants.{INBOX_PLACES}
use Rattle.notify_inbox.specs.Views.{took_more}
use Rattle.notify_inbox.specs.Rule.{EndsPosts, FollowsTaken, Gathers}

-- what a pass knows
abbrev pub take_view : TakePass → PassView Answer
take_view p = view p.pass

abbrev pub post_view : PostPass → PassView Answer
post_view p = view p.pass

-- for how many posters the inbox was made
abbrev pub posters_of : Inbox → ℕ
posters_of inbox = inbox.posters

-- how often the pass found the queue empty
abbrev pub empties_of : TakePass → ℕ
empties_of p = p.empties

-- its posts, each with its place among all posts
abbrev pub posts_in : PostPass → List (ℕ × Answer)
posts_in p = (post_view p).posts

abbrev pub IsTakePassOf : Inbox → TakePass → Type 0
IsTakePassOf inbox p = IsPassOf inbox.queue p.pass

abbrev pub IsPostPassOf : Inbox → PostPass → Type 0
IsPostPassOf inbox p = IsPassOf inbox.queue p.pass

-- the queue held 4,096 answers at one moment of the call, the last of all posts
abbrev pub WasFull : PostPass → Type 0
WasFull p = Held INBOX_PLACES (EndsPosts (post_view p))

-- the queue was empty at one moment of the call: all posts were taken
abbrev pub WasEmpty : TakePass → Type 0
WasEmpty p = Held 0 (FollowsTaken (take_view p))

-- one None more was counted, or the count stands at its last value
abbrev pub CountedOne : ℕ → ℕ → Type 0
CountedOne old new = (new ≡ old + 1) ⊎ ((old ≡ 2 ^ 64 - 1) × (new ≡ old))

abbrev pub CountedOneAtMost : ℕ → ℕ → Type 0
CountedOneAtMost old new = (new ≡ old) ⊎ CountedOne old new

-- the queue was found empty, and that was counted
pub record RanDry (old new : TakePass) : Type 0 where
  pub counted : CountedOne (empties_of old) (empties_of new)
  pub empty : WasEmpty new

-- these were taken, in order, and stand behind what the list had
pub record Took (old new : TakePass) (had has more : List Answer) : Type 0 where
  pub appended : has ≡ had ++ more
  pub taken : take_view new ≡ took_more (take_view old) more
  pub counted : CountedOneAtMost (empties_of old) (empties_of new)

-- what was taken where at most so many are: as many, or the queue was found empty
pub record TookUpTo (most : ℕ) (empty : Bool) (old new : TakePass) (had has : List Answer) : Type 0 where
  pub more : List Answer
  pub took : Took old new had has more
  pub few : length more ≤ most
  pub end : MatchBool empty (RanDry old new) (length more ≡ most)

-- so many were taken: the list has 4,096 answers then, or the queue was found empty
pub record TookAll (old new : TakePass) (had has : List Answer) (count : ℕ) : Type 0 where
  pub more : List Answer
  pub took : Took old new had has more
  pub counted : count ≡ length more
  pub few : length has ≤ INBOX_PLACES
  pub end : length has < INBOX_PLACES → RanDry old new

-- what the queue held was taken, and `rest` is what it holds then. That is nothing where fewer than 4,096
-- were taken, and where all passes were gathered before, since then nobody posts
pub record Drained (old new : TakePass) (had has : List Answer) : Type 0 where
  pub more : List Answer
  pub took : Took old new had has more
  pub few : length more ≤ INBOX_PLACES
  pub rest : List Answer
  pub posts : Gathers ((take_view new).took ++ rest) (take_view new)
  pub fewer : length more < INBOX_PLACES → rest ≡ []
  pub all : (take_view old).parts ≡ 16 → rest ≡ []
