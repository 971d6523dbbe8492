-- What a parse reads of two options that have to be given.
use Rattle.std.proofs.Common.{◌≡◌, ◌∙◌, ◌<◌, ◌≤◌, ◌||◌, ◌++◌, ℕ, zero, suc, Bool, true, false, List, [], ◌∷◌, length, ap, refl, sym, subst, inl, inr, arith, codes, slice_index}
use Rattle.std.specs.Prelude.{Some, pos}
use Rattle.std.specs.List.{All, slice_index_or}
use Rattle.std.specs.Str.{bytes_eq}
use Rattle.std.proofs.lemmas.List.Elements.{All-nil}
use Rattle.clap.specs.Facts.{args_of, groups_of, least_values}
use Rattle.clap.specs.Built.{AddsArg, IsAuto, IsParsedFrom, IsPlain, IsPlainArg, SameRules}
use Rattle.clap.specs.Words.{Text, found_of, one_text, without_minus}
use Rattle.clap.specs.declared.builder.action.ArgAction.TheVariants.{Set}
use Rattle.clap.specs.declared.builder.arg.Arg.{Arg}
use Rattle.clap.specs.declared.builder.command.Command.{Command}
use Rattle.clap.specs.declared.builder.command.Command.TheViews.{out-Command}
use Rattle.clap.specs.declared.builder.value_parser.ValueParser.TheVariants.{Signed}
use Rattle.clap.specs.declared.parser.matches.ArgMatches.{ArgMatches}
use Rattle.clap.proofs.CallerLemmas.{added_plain}
use Rattle.clap.proofs.CallerReads.{required_reads}
use Rattle.gen_words.specs.Options.{HasBoth, HasText, IsOption}

-- no name that a command has by itself, and some name
abbrev IsOwn : Text → Type 0
IsOwn name = (name ≡ [] → ⊥) × (name ≡ codes "help" → ⊥) × (name ≡ codes "version" → ⊥)

-- a name that begins with an s (115)
own : (name : Text) → slice_index name 0 ≡ 115 → IsOwn name
own name first = (
  λ e. let bad : 0 ≡ 115 = sym (ap (λ (t : Text). slice_index t 0) e) ∙ first in absurd (let no : ⊥ = omega arith in no),
  λ e. let bad : 104 ≡ 115 = sym (ap (λ (t : Text). slice_index t 0) e) ∙ first in absurd (let no : ⊥ = omega arith in no),
  λ e. let bad : 118 ≡ 115 = sym (ap (λ (t : Text). slice_index t 0) e) ∙ first in absurd (let no : ⊥ = omega arith in no),
)

-- an option stays one where it is added
kept : (a b : Arg) (name : Text) (least most : ℕ) → SameRules a b → IsPlainArg b → IsOption name least most a → IsOption name least most b
kept a b name least most same plain o = record {
  id = ap (λ w. w.now) same.id ∙ o.id;
  plain = plain;
  local = same.global ∙ o.local;
  required = same.required ∙ o.required;
  set = same.action Set o.set;
  delimiter = same.val_delim ∙ o.delimiter;
  values = same.least o.set o.values;
  parser = same.parser (Signed (pos least) (pos most)) o.parser;
}

plain_kept : (a b : Arg) → SameRules a b → IsPlainArg a → IsPlainArg b
plain_kept a b same p = (same.exclusive ∙ p.0, same.conflicts ∙ p.1, same.overrides ∙ p.2, same.groups ∙ p.3)

-- the option at a place, where no other argument has its name
read_at : (cmd : Command) (m : ArgMatches) → IsParsedFrom cmd m → IsPlain cmd → (out-Command cmd).has_globals ≡ false
    → (out-Command cmd).subcommand_negates_reqs ≡ false → (k : ℕ) (b : Arg) (name : Text) (least most : ℕ) → k < length (args_of cmd)
    → slice_index_or (args_of cmd) k b ≡ b → IsOption name least most b → IsOwn name
    → ((j : ℕ) (e : Arg) → j < length (args_of cmd) → bytes_eq (slice_index_or (args_of cmd) j e).id.now name ≡ true → j ≡ k)
    → HasText (found_of m) name least most
read_at cmd m p plain globals negates k b name least most lt there o free only =
    let id : (slice_index_or (args_of cmd) k b).id.now ≡ name = ap (λ (x : Arg). x.id.now) there ∙ o.id in
    let got = required_reads cmd m p plain globals negates k b lt
    (ap (λ (x : Arg). x.required) there ∙ o.required)
    (ap (λ (x : Arg). x.action) there ∙ o.set)
    (ap (λ (x : Arg). x.val_delim) there ∙ o.delimiter)
    (subst (λ (x : Arg). 1 ≤ least_values x) (sym there) o.values)
    (λ j e low same. only j e low (subst (λ (n : Text). bytes_eq (slice_index_or (args_of cmd) j e).id.now n ≡ true) id same))
    (λ empty. free.0 (sym id ∙ empty))
    (λ auto. elim auto [ inl h ↦ free.1 (sym id ∙ h) | inr h ↦ free.2 (sym id ∙ h) ])
    (Signed (pos least) (pos most)) (ap (λ (x : Arg). x.value_parser) there ∙ o.parser) in
    record {
      text = got.0;
      given = subst (λ (n : Text). one_text (found_of m) n ≡ Some (without_minus got.0)) id got.1;
      within = got.2;
    }

-- of two arguments with different names each is the only one of its name
only_first : (x y : Arg) (xs : List Arg) (n o : Text) → xs ≡ x ∷ y ∷ [] → y.id.now ≡ o → bytes_eq o n ≡ false
    → (j : ℕ) (e : Arg) → j < length xs → bytes_eq (slice_index_or xs j e).id.now n ≡ true → j ≡ 0
only_first x y xs n o is name other zero e low same = refl
only_first x y xs n o is name other (suc zero) e low same =
    let there : (slice_index_or xs 1 e).id.now ≡ o = ap (λ (l : List Arg). (slice_index_or l 1 e).id.now) is ∙ name in
    let bad : bytes_eq o n ≡ true = subst (λ (t : Text). bytes_eq t n ≡ true) there same in
    cc
only_first x y xs n o is name other (suc (suc j)) e low same =
    let two : length xs ≡ 2 = ap length is in
    absurd (omega arith)

only_second : (x y : Arg) (xs : List Arg) (n o : Text) → xs ≡ x ∷ y ∷ [] → x.id.now ≡ o → bytes_eq o n ≡ false
    → (j : ℕ) (e : Arg) → j < length xs → bytes_eq (slice_index_or xs j e).id.now n ≡ true → j ≡ 1
only_second x y xs n o is name other zero e low same =
    let there : (slice_index_or xs 0 e).id.now ≡ o = ap (λ (l : List Arg). (slice_index_or l 0 e).id.now) is ∙ name in
    let bad : bytes_eq o n ≡ true = subst (λ (t : Text). bytes_eq t n ≡ true) there same in
    cc
only_second x y xs n o is name other (suc zero) e low same = refl
only_second x y xs n o is name other (suc (suc j)) e low same =
    let two : length xs ≡ 2 = ap length is in
    absurd (omega arith)

-- a parse of a command that has the two options alone
pub both_read : (start one two : Command) (a b : Arg) → AddsArg start a one → AddsArg one b two → args_of start ≡ [] → groups_of start ≡ []
    → (out-Command start).has_globals ≡ false → (out-Command start).subcommand_negates_reqs ≡ false
    → IsOption (codes "seed") 0 4294967295 a → IsOption (codes "size") 1 1000 b → (m : ArgMatches) → IsParsedFrom two m → HasBoth m
both_read start one two a b f g args groups globals negates seed size m p =
    let x : Arg = f.arg in
    let y : Arg = g.arg in
    let list : args_of two ≡ x ∷ y ∷ [] = g.args ∙ ap (λ (l : List Arg). l ++ y ∷ []) (f.args ∙ ap (λ (l : List Arg). l ++ x ∷ []) args) in
    let start-plain : IsPlain start = (subst (All IsPlainArg) (sym args) (All-nil IsPlainArg), groups) in
    let plain : IsPlain two = added_plain one two b g (added_plain start one a f start-plain seed.plain) size.plain in
    let none : (out-Command two).has_globals ≡ false =
    g.globals ∙ ap (λ (t : Bool). t || b.global) (f.globals ∙ ap (λ (t : Bool). t || a.global) globals ∙ ap (λ (t : Bool). false || t) seed.local)
    ∙ ap (λ (t : Bool). false || t) size.local in
    let needs : (out-Command two).subcommand_negates_reqs ≡ false = g.negates ∙ (f.negates ∙ negates) in
    let first : IsOption (codes "seed") 0 4294967295 x = kept a x (codes "seed") 0 4294967295 f.rules (plain_kept a x f.rules seed.plain) seed in
    let second : IsOption (codes "size") 1 1000 y = kept b y (codes "size") 1 1000 g.rules (plain_kept b y g.rules size.plain) size in
    let two_long : length (args_of two) ≡ 2 = ap length list in
    record {
      seed =
          read_at two m p plain none needs 0 x (codes "seed") 0 4294967295 (omega arith) (ap (λ (l : List Arg). slice_index_or l 0 x) list) first
          (own (codes "seed") refl) (only_first x y (args_of two) (codes "seed") (codes "size") list second.id refl);
      size =
          read_at two m p plain none needs 1 y (codes "size") 1 1000 (omega arith) (ap (λ (l : List Arg). slice_index_or l 1 y) list) second
          (own (codes "size") refl) (only_second x y (args_of two) (codes "size") (codes "seed") list first.id refl);
    }
