use Rattle.std.proofs.Common.{◌≡◌, ◌+◌, ◌∷◌, ◌++◌, [], ℕ, List, Some, None, inl, refl, sym, ap, subst, ◌∙◌}
use Rattle.std.proofs.Common.{arith, take, drop}
use Rattle.std.specs.Prelude.{slice_range}
use Rattle.std.proofs.lemmas.Str.{IsUtf8-drop, IsCharBoundary-start, IsCharBoundary-from_rest}
use Rattle.std.proofs.lemmas.List.Elements.{All-append, All-cons, All-nil}
use Rattle.module_token.specs.declared.token.Token.{Token}
use Rattle.module_token.specs.Cut.{IsCut}
use Rattle.module_token.specs.Front.{front_of}
use Rattle.module_token.specs.Place.{InText, toks}
use Rattle.module_token.specs.Token.{IsToken}
use Rattle.module_token.specs.Tokens.{FirstTokenFault}
use Rattle.module_token.specs.declared.fault.TokensError.TheVariants as error
use Rattle.module_token.proofs.Parted.{IsReadTo, read_none, read_gap, read_token, all_found, all_only}
use Rattle.module_token.proofs.Parted.{fault_found, fault_only, rising_on, rising_push, same_some, same_fault}
use Rattle.module_token.proofs.Parted.{token_spells, toks_push}
use Rattle.module_token.proofs.tokens.tokens.Goals as goal

pub loop-tokens-init : goal.loop-tokens-init
loop-tokens-init c =
    rw c.new-tokens.ensures.items (record {
      cut = IsCharBoundary-start c.args.text.now c.utf8.text;
      read =
          read_none c.args.text.now;
      in_text = All-nil (InText c.args.text.now);
      rising = omega arith;
    })

pub returns-in-End-clause-found : goal.returns-in-End-clause-found
returns-in-End-clause-found c =
    let at = c.loop-tokens in
    all_found c.args.text.now at.at (toks c.args.text.now at.tokens.items)
    (IsUtf8-drop c.args.text.now at.at c.utf8.text at.invariant.cut) at.invariant.read
    (c.in-End.ensures.value ∙ ap front_of c.split_at.ensures.back)

pub returns-in-End-clause-only : goal.returns-in-End-clause-only
returns-in-End-clause-only c ts h =
    let at = c.loop-tokens in
    sym (all_only c.args.text.now at.at (toks c.args.text.now at.tokens.items)
    (IsUtf8-drop c.args.text.now at.at c.utf8.text at.invariant.cut) at.invariant.read
    (c.in-End.ensures.value ∙ ap front_of c.split_at.ensures.back) ts None h).0

pub returns-in-End-clause-refused : goal.returns-in-End-clause-refused
returns-in-End-clause-refused c e (ts, h) =
    let at = c.loop-tokens in
    let q = (all_only c.args.text.now at.at (toks c.args.text.now at.tokens.items)
    (IsUtf8-drop c.args.text.now at.at c.utf8.text at.invariant.cut) at.invariant.read
    (c.in-End.ensures.value ∙ ap front_of c.split_at.ensures.back) ts (Some e) h).1 in
    let never : ⊥ = cc in never

pub loop-tokens-preserved-in-Gap : goal.loop-tokens-preserved-in-Gap
loop-tokens-preserved-in-Gap c =
    let at = c.loop-tokens in
    let text = c.args.text.now in
    let cut : IsCut (drop at.at text) c.in-Gap.len = subst (λ (l : List ℕ). IsCut l c.in-Gap.len)
    c.split_at.ensures.back c.in-Gap.ensures.cut in
    record {
      cut = IsCharBoundary-from_rest text at.at c.in-Gap.len at.invariant.cut.0 cut.1;
      read = read_gap text at.at (toks text at.tokens.items)
          (IsUtf8-drop text at.at c.utf8.text at.invariant.cut) at.invariant.read c.in-Gap.len
          (c.in-Gap.ensures.value ∙ ap front_of c.split_at.ensures.back);
      in_text = at.invariant.in_text;
      rising = rising_on 0 at.tokens.items at.at (at.at + c.in-Gap.len) at.invariant.rising (omega arith);
    }

pub loop-tokens-preserved : goal.loop-tokens-preserved
loop-tokens-preserved c =
    let at = c.loop-tokens in
    let text = c.args.text.now in
    let n = c.in-Lexeme.len in
    let cut : IsCut (drop at.at text) n = subst (λ (l : List ℕ). IsCut l n) c.split_at.ensures.back
    c.in-Lexeme.ensures.cut in
    let last = IsCharBoundary-from_rest text at.at n at.invariant.cut.0 cut.1 in
    let token : Token = record { start = at.at; «end» = at.at + n; what = c.in-Lexeme.what } in
    let spelled : slice_range text at.at (at.at + n) ≡ take n (drop at.at text) =
    ap (λ k. take k (drop at.at text)) (omega arith) in
    let read = read_token text at.at (toks text at.tokens.items)
    (IsUtf8-drop text at.at c.utf8.text at.invariant.cut) at.invariant.read n c.in-Lexeme.what
    (c.in-Lexeme.ensures.value ∙ ap front_of c.split_at.ensures.back) in
    let front_is = c.in-Lexeme.ensures.value ∙ ap front_of c.split_at.ensures.back in
    let spells : IsToken (slice_range text at.at (at.at + n)) c.in-Lexeme.what (drop (at.at + n) text) =
    token_spells text at.at n c.in-Lexeme.what (IsUtf8-drop text at.at c.utf8.text at.invariant.cut)
    front_is in
    let same : toks text (at.tokens.items ++ token ∷ []) ≡ toks text at.tokens.items
    ++ record { place = at.at; what = c.in-Lexeme.what; text = take n (drop at.at text) } ∷ [] =
    toks_push text at.tokens.items token ∙ ap (λ (l : List ℕ). toks text at.tokens.items
    ++ record { place = at.at; what = c.in-Lexeme.what; text = l } ∷ []) spelled in
    rw c.in_ok-push-in-Lexeme.ensures.items (record {
      cut = last;
      read = subst (IsReadTo text (at.at + n)) (sym same) read;
      in_text = All-append (InText text) at.tokens.items (token ∷ []) at.invariant.in_text
          (All-cons (InText text) token [] (record {
            some = omega (arith, cut.0);
            first = at.invariant.cut;
            last = last;
            spells = spells;
          }) (All-nil (InText text)));
      rising = rising_push 0 at.tokens.items at.at token at.invariant.rising (omega arith);
    })

pub returns-in-Wrong-clause-only : goal.returns-in-Wrong-clause-only
returns-in-Wrong-clause-only c ts h =
    let at = c.loop-tokens in
    let q = fault_only c.args.text.now at.at (toks c.args.text.now at.tokens.items)
    (IsUtf8-drop c.args.text.now at.at c.utf8.text at.invariant.cut) at.invariant.read c.in-Wrong.len
    c.in-Wrong.kind (c.in-Wrong.ensures.value ∙ ap front_of c.split_at.ensures.back) ts None h in
    absurd (let never : ⊥ = cc in never)

pub returns-in-Wrong-clause-fault : goal.returns-in-Wrong-clause-fault
returns-in-Wrong-clause-fault c f h =
    let at = c.loop-tokens in
    subst (FirstTokenFault c.args.text.now) (same_fault _ refl h) (
      toks c.args.text.now at.tokens.items,
      fault_found c.args.text.now at.at
          (toks c.args.text.now at.tokens.items) (IsUtf8-drop c.args.text.now at.at c.utf8.text
          at.invariant.cut) at.invariant.read c.in-Wrong.len c.in-Wrong.kind (c.in-Wrong.ensures.value
          ∙ ap front_of c.split_at.ensures.back),
    )

pub returns-in-Wrong-clause-refused : goal.returns-in-Wrong-clause-refused
returns-in-Wrong-clause-refused c e (ts, h) =
    let at = c.loop-tokens in
    let q = fault_only c.args.text.now at.at (toks c.args.text.now at.tokens.items)
    (IsUtf8-drop c.args.text.now at.at c.utf8.text at.invariant.cut) at.invariant.read c.in-Wrong.len
    c.in-Wrong.kind (c.in-Wrong.ensures.value ∙ ap front_of c.split_at.ensures.back) ts (Some e) h in
    inl (ap error.Fault (sym (same_some q)))
