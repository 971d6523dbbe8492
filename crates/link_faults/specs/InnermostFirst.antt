-- What a table of names in scope shows: each name with the place of what it means, from the innermost
-- declaration outward. (Block structure, as in Algol 60.)
use Rattle.std.specs.Prelude.{◌≡◌, ℕ, cond, Option, Some, None, List, [], ◌∷◌, map, reverse}
use Rattle.std.specs.Str.{bytes_eq}
use Rattle.std.specs.String.{string_bytes}
use Rattle.indexmap.specs.IndexMap.{get_by_text}
use Rattle.module_tree.specs.Scopes.{Signal}
use Rattle.link_faults.specs.declared.scope.Declaration.{Declaration}
use Rattle.link_faults.specs.declared.scope.Scope.{Scope}
use Rattle.link_faults.specs.Named.{Name}

-- a name, and the place of what it means
pub record Named : Type 0 where
  pub name : Name
  pub place : ℕ

abbrev pub declares : Name → ℕ → Named
declares name place = record { name = name; place = place }

-- what a table of names shows of a signal
abbrev pub shown : Signal → Named
shown s = declares s.signal.name s.place

-- the first of the name, if it has one
abbrev pub place_in : List Named → Name → Option ℕ
place_in [] name = None
place_in (n ∷ ns) name = cond (bytes_eq n.name name) (Some n.place) (place_in ns name)

abbrev pub named : Declaration → Named
named d = record { name = string_bytes d.name; place = d.place }

-- from the innermost outward
abbrev pub in_scope : Scope → List Named
in_scope s = map named (reverse s.declared)

-- each declaration keeps the place that its name had before
abbrev pub KeepHidden : List Declaration → Type 0
KeepHidden [] = Unit {0}
KeepHidden (d ∷ ds) = (d.hidden ≡ place_in (map named ds) (string_bytes d.name)) × KeepHidden ds

-- the table finds the innermost declaration of each name
pub record IsScope (s : Scope) : Type 0 where
  pub found : (name : Name) → get_by_text s.places name ≡ place_in (in_scope s) name
  pub hidden : KeepHidden (reverse s.declared)
