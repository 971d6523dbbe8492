-- What a pass of the inbox knows, and how it changes. (This project's own.)
use Rattle.std.specs.Prelude.{ℕ, ◌+◌, ◌-◌, List, [], ◌∷◌, ◌++◌, length}
use Rattle.notify_inbox.specs.declared.view.PassView.{PassView}

module _ {A : Type 0} where
  -- that of a take pass with so many parts, and of a post pass, which has one
  abbrev pub taker : ℕ → PassView A
  taker parts = record { takes = 1; took = []; posts = []; gathered = []; parts = parts }

  abbrev pub poster : PassView A
  poster = record { takes = 0; took = []; posts = []; gathered = []; parts = 1 }

  -- that of a pass that was gathered into another
  abbrev pub gathered_away : PassView A
  gathered_away = record { takes = 0; took = []; posts = []; gathered = []; parts = 0 }

  abbrev pub all_parts : PassView A
  all_parts = taker 16

  abbrev pub less_one_part : PassView A → PassView A
  less_one_part v = record v { parts = v.parts - 1 }

  -- one answer more was posted, at this place among all posts
  abbrev pub posted : PassView A → ℕ → A → PassView A
  posted v p x = record v { posts = v.posts ++ (p, x) ∷ [] }

  abbrev pub taken : PassView A → A → PassView A
  taken v x = record v { took = v.took ++ x ∷ [] }

  abbrev pub took_more : PassView A → List A → PassView A
  took_more v xs = record v { took = v.took ++ xs }

  -- with the posts of another pass
  abbrev pub with_posts : PassView A → PassView A → PassView A
  with_posts v w = record v {
    takes = v.takes + w.takes;
    gathered = w.posts ∷ v.gathered;
    parts = v.parts + w.parts;
  }

  -- with the posts of several passes of one part each
  abbrev pub gathering : PassView A → List (List (ℕ × A)) → PassView A
  gathering v posts = record v { gathered = posts ++ v.gathered; parts = v.parts + length posts }
