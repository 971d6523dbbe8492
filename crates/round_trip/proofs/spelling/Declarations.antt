-- The words of signals, parameters, delays and calls.
use Rattle.std.proofs.Common.{◌≡◌, ℕ, ◌≤◌, ◌^◌, true, List, Option, Some, None, refl, arith}
use Rattle.std.specs.Prelude.{◌&&◌, codes, nat_le}
use Rattle.std.specs.List.{list_all}
use Rattle.std.proofs.lemmas.Bool.{leb-true}
use Rattle.hh_base.specs.Keyword.{is_keyword, keyword_text}
use Rattle.hh_base.specs.declared.value.Kind.{Kind}
use Rattle.hh_base.specs.declared.value.Kind.TheVariants as kind
use Rattle.hh_base.specs.declared.value.CombineWord.{CombineWord}
use Rattle.hh_base.specs.declared.value.CombineWord.TheVariants as combine
use Rattle.hh_base.specs.declared.value.Dir.{Dir}
use Rattle.hh_base.specs.declared.value.Dir.TheVariants as dir
use Rattle.module_tree.specs.declared.source.NameAt.{NameAt}
use Rattle.module_tree.specs.declared.source.ExprAt.{ExprAt}
use Rattle.module_tree.specs.declared.source.SignalNode.{SignalNode}
use Rattle.module_tree.specs.declared.source.InterfaceNode.{InterfaceNode}
use Rattle.module_tree.specs.declared.source.ParameterNode.{ParameterNode}
use Rattle.module_tree.specs.declared.source.Binding.{Binding}
use Rattle.module_tree.specs.declared.source.AsyncNode.{AsyncNode}
use Rattle.module_tree.specs.declared.source.Later.{Later}
use Rattle.module_tree.specs.declared.source.Later.TheVariants as plain
use Rattle.module_tree.specs.declared.source.Delay.{Delay}
use Rattle.module_tree.specs.declared.source.Delay.TheVariants as delay
use Rattle.module_tree.specs.SourceForms as tests
use Rattle.module_tree.specs.SourceForms.{fits_name, fits_expression, fits_signal, fits_interface, fits_parameter, fits_later, fits_delay, fits_binding, fits_async}
use Rattle.module_tree.specs.SourceWords.{is_written_text, is_written_value}
use Rattle.hh_base.specs.declared.keyword.Keyword.{Keyword}
use Rattle.hh_base.specs.declared.keyword.Keyword.TheVariants as k
use Rattle.module_token.specs.declared.punct.Punct.TheVariants as p
use Rattle.module_printer.specs.SourceTokens.{if_there, token_of_kind, token_of_combine, tokens_of_dir, tokens_of_type, tokens_of_first, tokens_of_combine, tokens_of_signal, tokens_of_interface, tokens_of_parameter, tokens_of_outermost, tokens_of_test, tokens_of_later, tokens_of_delay, tokens_of_binding, tokens_of_answer, tokens_of_handler, tokens_of_call, tokens_of_handlers, tokens_of_async, tokens_of_emission, tokens_of_run}
use Rattle.round_trip.proofs.spelling.Blanks.{and_true}
use Rattle.round_trip.proofs.spelling.Words.{IsSpelt, Spelt, name, plain as ascii, keyword, mark, number, text, none, more, single, both, closed, enclosed, commas, all_passed, optional}
use Rattle.round_trip.proofs.spelling.Expressions.{first_value, expression}

abbrev Name : Type 0
Name = List ℕ

-- ---- signals and parameters

pub kind_word : (t : Kind) → IsSpelt (token_of_kind t)
kind_word kind.Pure = keyword k.Pure
kind_word kind.Int = keyword k.Int
kind_word kind.Bool = keyword k.Bool
kind_word kind.Text = keyword k.Text

combine_word : (c : CombineWord) → IsSpelt (token_of_combine c)
unfolding is_keyword
combine_word combine.Plus = ascii (codes "plus") refl
combine_word combine.Min = ascii (codes "min") refl
combine_word combine.Max = ascii (codes "max") refl
combine_word combine.And = ascii (codes "and") refl
combine_word combine.Or = ascii (codes "or") refl

direction : (d : Dir) → Spelt (tokens_of_dir d)
direction dir.Input = single (keyword k.In)
direction dir.Output = single (keyword k.Out)
direction dir.Both = single (keyword k.Inout)
direction dir.Local = none

type : (t : Kind) → Spelt (tokens_of_type t)
type kind.Pure = none
type kind.Int = more (mark p.Colon) (single (kind_word kind.Int))
type kind.Bool = more (mark p.Colon) (single (kind_word kind.Bool))
type kind.Text = more (mark p.Colon) (single (kind_word kind.Text))

combination : (c : Option CombineWord) → Spelt (if_there tokens_of_combine c)
combination None = none
combination (Some c) = more (keyword k.Combine) (single (combine_word c))

pub signal : (s : SignalNode) → fits_signal s ≡ true → Spelt (tokens_of_signal s)
signal s h =
    let q = and_true _ _ h in
    more (name s.name q.0)
    (both (both (type s.kind) (optional tokens_of_first is_written_value
    (λ v e. more (mark p.Equal) (first_value v e)) s.first q.1)) (combination s.combine))

pub interface : (d : InterfaceNode) → fits_interface d ≡ true → Spelt (tokens_of_interface d)
interface d h = both (direction d.dir) (signal d.signal (and_true _ _ h).1)

pub parameter : (x : ParameterNode) → fits_parameter x ≡ true → Spelt (tokens_of_parameter x)
parameter x h = more (name x.name (and_true _ _ h).0) (more (mark p.Colon) (single (kind_word x.kind)))

-- ---- expressions and delays

pub outermost : (x : ExprAt Name) → fits_expression x ≡ true → Spelt (tokens_of_outermost x)
outermost x h = expression x.expr h

pub test : (x : ExprAt Name) → fits_expression x ≡ true → Spelt (tokens_of_test x)
test x h = enclosed (outermost x h)

count_within : (n : ℕ) → (nat_le 1 n && nat_le n 64) ≡ true → n ≤ 2 ^ 63
count_within n h = let most : n ≤ 64 = leb-true n 64 (and_true (nat_le 1 n) (nat_le n 64) h).1 in
    omega (arith, most)

pub plain_delay : (d : Later Name) → fits_later d ≡ true → Spelt (tokens_of_later d)
plain_delay (plain.Once x) h = test x h
plain_delay (plain.Count n x) h =
    let q = and_true _ _ h in
    more (keyword k.Count)
    (enclosed (more (number n (count_within n q.0)) (more (mark p.Comma) (outermost x q.1))))

pub any_delay : (d : Delay Name) → fits_delay d ≡ true → Spelt (tokens_of_delay d)
any_delay (delay.Later d) h = plain_delay d h
any_delay (delay.Immediate x) h = more (keyword k.Immediate) (test x h)

-- ---- emissions, runs and calls

pub emission : (word : Keyword) (n : NameAt Name) (x : Option (ExprAt Name)) → fits_name n ≡ true
    → tests.if_there fits_expression x ≡ true → Spelt (tokens_of_emission (keyword_text word) n x)
emission word n x h g = more (keyword word) (more (name n.name h)
    (closed (optional tokens_of_test fits_expression test x g) p.Semicolon))

binding : (b : Binding Name) → fits_binding b ≡ true → Spelt (tokens_of_binding b)
binding b h = let q = and_true _ _ h in more (name b.left.name q.0)
    (more (mark p.Equal) (single (name b.right.name q.1)))

pub run : (n : NameAt Name) (bindings : List (Binding Name)) → fits_name n ≡ true
    → list_all fits_binding bindings ≡ true → Spelt (tokens_of_run n bindings)
run n bindings h g =
    more (keyword k.Run) (more (name n.name h)
    (closed (enclosed (commas tokens_of_binding bindings (all_passed
    (λ b. Spelt (tokens_of_binding b)) fits_binding binding bindings g))) p.Semicolon))

handler : (word : Keyword) (x : Option Name) → tests.if_there is_written_text x ≡ true
    → Spelt (tokens_of_handler (keyword_text word) x)
handler word x h = optional _ is_written_text (λ t e. more (keyword word) (single (text t e))) x h

-- what is told of an asynchronous statement, part by part
record Fits (a : AsyncNode Name) : Type 0 where
  signal : tests.if_there fits_name a.signal ≡ true
  body : fits_name a.body ≡ true
  args : list_all fits_expression a.args ≡ true
  kill : tests.if_there is_written_text a.kill ≡ true
  suspend : tests.if_there is_written_text a.suspend ≡ true
  resume : tests.if_there is_written_text a.resume ≡ true

parts : (a : AsyncNode Name) → fits_async a ≡ true → Fits a
parts a h =
    let q = and_true _ _ h in
    let r = and_true _ _ q.0 in
    let s = and_true _ _ r.0 in
    let t = and_true _ _ s.0 in
    let u = and_true _ _ t.0 in
    record { signal = u.0; body = u.1; args = t.1; kill = s.1; suspend = r.1; resume = q.1 }

call : (a : AsyncNode Name) → Fits a → Spelt (tokens_of_call a)
call a h =
    more (keyword k.Call) (more (name a.body.name h.body)
    (enclosed (commas tokens_of_outermost a.args (all_passed
    (λ x. Spelt (tokens_of_outermost x)) fits_expression outermost a.args h.args))))

handlers : (a : AsyncNode Name) → Fits a → Spelt (tokens_of_handlers a)
handlers a h = both (both (handler k.Kill a.kill h.kill) (handler k.Suspend a.suspend h.suspend))
    (handler k.Resume a.resume h.resume)

pub async : (a : AsyncNode Name) → fits_async a ≡ true → Spelt (tokens_of_async a)
async a h =
    let f = parts a h in
    closed (both (both (more (keyword k.Async) (optional tokens_of_answer fits_name
    (λ n e. enclosed (single (name n.name e))) a.signal f.signal)) (call a f)) (handlers a f)) p.Semicolon
