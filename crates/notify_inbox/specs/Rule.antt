-- The rule of the inbox: the list of all posts is what was taken, and then what the queue holds; and each
-- pass's own posts stand in it, in their order, each once. (This project's own.)
use Rattle.std.specs.Prelude.{◌≡◌, ℕ, suc, ◌+◌, ◌<◌, ◌≤◌, Bool, true, false, List, [], ◌∷◌, ◌++◌, length}
use Rattle.std.specs.Prelude.{slice_get, Some, ltb, eqb}
use mathlib.Core.Option.{some}
use lib.ListN.{get_elem?}
use Rattle.turn_cell.specs.Lists.{total}
use Rattle.notify_inbox.specs.declared.view.PassView.{PassView}
use Rattle.notify_inbox.specs.declared.limits.TheConstants.{INBOX_PLACES}

abbrev pub one_if : Bool → ℕ
one_if true = 1
one_if false = 0

-- 1 for a place below n
abbrev pub below : ℕ → ℕ → ℕ
below p n = one_if (ltb p n)

module _ {A : Type 0} where
  -- the posts stand at their places in the list of all, and the places rise from low on
  abbrev pub StandTo : List A → ℕ → List (ℕ × A) → Type 0
  StandTo all low [] = low ≤ length all
  StandTo all low (q ∷ qs) = (low ≤ q.0) × (slice_get all q.0 ≡ Some q.1) × StandTo all (suc q.0) qs

  abbrev pub EachStands : List A → List (List (ℕ × A)) → Type 0
  EachStands all [] = Unit {0}
  EachStands all (posts ∷ lists) = StandTo all 0 posts × EachStands all lists

  -- how often a post has this place
  abbrev pub count_at : ℕ → List (ℕ × A) → ℕ
  count_at p [] = 0
  count_at p (q ∷ qs) = one_if (eqb p q.0) + count_at p qs

  -- the numbers of which the rule has sums
  abbrev pub takes_of : PassView A → ℕ
  takes_of v = v.takes

  abbrev pub parts_of : PassView A → ℕ
  parts_of v = v.parts

  abbrev pub posts_of : PassView A → ℕ
  posts_of v = length v.posts + total length v.gathered

  abbrev pub times_at : ℕ → PassView A → ℕ
  times_at p v = count_at p v.posts + total (count_at p) v.gathered

  -- its own posts stand in the list of all, and those of each pass that was gathered into it; without a part
  -- there are none
  pub record ViewFits (all : List A) (v : PassView A) : Type 0 where
    pub stand : StandTo all 0 v.posts
    pub gathered : EachStands all v.gathered
    pub none : v.parts ≡ 0 → (v.posts ≡ []) × (v.gathered ≡ [])

  pub record IsInboxState (items : List A) (views : List (PassView A)) : Type 0 where
    pub all : List A
    pub took : (i : ℕ) (v : PassView A) → get_elem? views i ≡ some v → 0 < v.takes → all ≡ v.took ++ items
    pub taker : total takes_of views ≡ 1
    pub each : (i : ℕ) (v : PassView A) → get_elem? views i ≡ some v → ViewFits all v
    pub once : (p : ℕ) → total (times_at p) views ≡ below p (length all)
    pub long : total posts_of views ≡ length all
    pub whole : total parts_of views ≡ 16
    pub few : length items ≤ INBOX_PLACES

  -- what the pass posted, and those that were gathered into it, stands in the list of all posts, and no place
  -- twice. With all parts, each place is that of one of these posts
  pub record Gathers (all : List A) (v : PassView A) : Type 0 where
    pub fits : ViewFits all v
    pub once : (p : ℕ) → times_at p v ≤ 1
    pub every : v.parts ≡ 16 → (p : ℕ) → times_at p v ≡ below p (length all)
    pub long : v.parts ≡ 16 → posts_of v ≡ length all

  -- what a post pass learns of what the queue holds: it is the end of the list of all posts, in which its own
  -- posts stand
  pub record EndsPosts (v : PassView A) (items : List A) : Type 0 where
    pub before : List A
    pub fits : ViewFits (before ++ items) v

  -- what the take pass learns of it: the list of all posts is what it took, and then this
  pub record FollowsTaken (v : PassView A) (items : List A) : Type 0 where
    pub gathers : Gathers (v.took ++ items) v
    pub few : length items ≤ INBOX_PLACES
