-- A text that has been read up to a place.
use Rattle.std.proofs.Common.{◌≡◌, ℕ, ◌+◌, ◌-◌, ◌≤◌, List, [], ◌∷◌, ◌++◌, drop, take, Option, Some, None}
use Rattle.std.proofs.Common.{Result, Err, refl, sym, ap, subst, ◌∙◌, arith, append_assoc, append-nil}
use Rattle.std.specs.Prelude.{slice_range}
use Rattle.std.specs.Str.{IsUtf8}
use Rattle.std.proofs.lemmas.List.{drop-drop, map-append}
use Rattle.module_token.specs.declared.fault.TokenFaultKind.{TokenFaultKind}
use Rattle.module_token.specs.declared.fault.TokenFault.{TokenFault}
use Rattle.module_token.specs.declared.fault.TokensError.{TokensError}
use Rattle.module_token.specs.declared.fault.TokensError.TheVariants as error
use Rattle.module_token.specs.declared.front.Front.{Front}
use Rattle.module_token.specs.declared.front.Front.TheVariants as front
use Rattle.module_token.specs.declared.token.Token.{Token}
use Rattle.module_token.specs.declared.token.TokenKind.{TokenKind}
use Rattle.module_token.specs.Front.{front_of}
use Rattle.module_token.specs.Place.{tok, toks, Rising}
use Rattle.module_token.specs.Tokens.{TextToken, fault_at, Tokenizes}
use Rattle.module_token.specs.Token.{IsToken}
use Rattle.module_token.proofs.Found.{Fits, front_fits}
use Rattle.module_token.proofs.Reading.{Next, tok_at, next_of, reads_of}

-- these tokens stand before the place, and the text is read from there on
pub record IsReadTo (text : List ℕ) (at : ℕ) (tokens : List TextToken) : Type 0 where
  pub back : (more : List TextToken) (end : Option TokenFault) → Tokenizes at (drop at text) more end
      → Tokenizes 0 text (tokens ++ more) end
  pub on : (all : List TextToken) (end : Option TokenFault) → Tokenizes 0 text all end
      → (more : List TextToken) × (all ≡ tokens ++ more) × Tokenizes at (drop at text) more end

pub read_none : (text : List ℕ) → IsReadTo text 0 []
read_none text = record { back = λ more end h. h; on = λ all end h. (all, refl, h) }

drop_on : (at n : ℕ) (text : List ℕ) → drop n (drop at text) ≡ drop (at + n) text
drop_on at n text = drop-drop n at text

-- one step over what stands at the front of the rest
module _ (text : List ℕ) (at : ℕ) (tokens : List TextToken) (utf8 : IsUtf8 (drop at text))
    (read : IsReadTo text at tokens) where
  next : (all : List TextToken) (end : Option TokenFault) (f : Front) → f ≡ front_of (drop at text)
      → Tokenizes 0 text all end → (more : List TextToken) × (all ≡ tokens ++ more)
      × Next at (drop at text) more end f
  next all end f e h = let q = read.on all end h in
      (q.0, q.1, subst (Next at (drop at text) q.0 end) (sym e) (next_of q.2))

  back : (more : List TextToken) (end : Option TokenFault) (f : Front) → f ≡ front_of (drop at text)
      → Next at (drop at text) more end f → Tokenizes 0 text (tokens ++ more) end
  back more end f e h = read.back more end (reads_of at (drop at text) more end utf8
      (subst (Next at (drop at text) more end) e h))

  pub read_gap : (n : ℕ) → front.Gap n ≡ front_of (drop at text) → IsReadTo text (at + n) tokens
  read_gap n e =
      record {
        back = λ more end h. back more end (front.Gap n) e
            (subst (λ l. Tokenizes (at + n) l more end) (sym (drop_on at n text)) h);
        on = λ all end h. let q = next all end (front.Gap n) e h in
            (q.0, q.1, subst (λ l. Tokenizes (at + n) l q.0 end) (drop_on at n text) q.2);
      }

  pub read_token : (n : ℕ) (what : TokenKind) → front.Lexeme n what ≡ front_of (drop at text)
      → IsReadTo text (at + n) (tokens ++ tok_at at n what (drop at text) ∷ [])
  read_token n what e =
      let one = tok_at at n what (drop at text) in
      record {
        back = λ more end h. subst (λ l. Tokenizes 0 text l end)
            (sym (append_assoc tokens (one ∷ []) more))
            (back (one ∷ more) end (front.Lexeme n what) e
            (more, refl, subst (λ l. Tokenizes (at + n) l more end) (sym (drop_on at n text)) h));
        on = λ all end h. let q = next all end (front.Lexeme n what) e h in (
          q.2.0,
          q.1 ∙ ap (λ l. tokens ++ l) q.2.1 ∙ sym (append_assoc tokens (one ∷ []) q.2.0),
          subst (λ l. Tokenizes (at + n) l q.2.0 end) (drop_on at n text) q.2.2,
        );
      }

  pub all_found : front.End ≡ front_of (drop at text) → Tokenizes 0 text tokens None
  all_found e = subst (λ l. Tokenizes 0 text l None) (append-nil tokens)
      (back [] None front.End e (refl, refl))

  pub all_only : front.End ≡ front_of (drop at text) → (all : List TextToken) (end : Option TokenFault)
      → Tokenizes 0 text all end → (all ≡ tokens) × (end ≡ None)
  all_only e all end h = let q = next all end front.End e h in
      (q.1 ∙ ap (λ l. tokens ++ l) q.2.0 ∙ append-nil tokens, q.2.1)

  pub fault_found : (n : ℕ) (kind : TokenFaultKind) → front.Wrong n kind ≡ front_of (drop at text)
      → Tokenizes 0 text tokens (Some (fault_at (at + n) kind))
  fault_found n kind e = subst (λ l. Tokenizes 0 text l (Some (fault_at (at + n) kind)))
      (append-nil tokens) (back [] (Some (fault_at (at + n) kind)) (front.Wrong n kind) e (refl, refl))

  pub fault_only : (n : ℕ) (kind : TokenFaultKind) → front.Wrong n kind ≡ front_of (drop at text)
      → (all : List TextToken) (end : Option TokenFault) → Tokenizes 0 text all end
      → end ≡ Some (fault_at (at + n) kind)
  fault_only n kind e all end h = let q = next all end (front.Wrong n kind) e h in q.2.1

pub rising_on : (at : ℕ) (ts : List Token) (end more : ℕ) → Rising at ts end → end ≤ more → Rising at ts more
rising_on at [] end more h l = omega (arith, h)
rising_on at (t ∷ ts) end more h l = (h.0, rising_on t.«end» ts end more h.1 l)

pub rising_push : (at : ℕ) (ts : List Token) (end : ℕ) (t : Token) → Rising at ts end → end ≤ t.start
    → Rising at (ts ++ t ∷ []) t.«end»
rising_push at [] end t h l = (omega (arith, h), omega arith)
rising_push at (x ∷ ts) end t h l = (h.0, rising_push x.«end» ts end t h.1 l)

pub toks_push : (text : List ℕ) (ts : List Token) (t : Token) → toks text (ts ++ t ∷ []) ≡ toks text ts
    ++ tok text t ∷ []
toks_push text ts t = map-append (tok text) ts (t ∷ [])

pub same_fault : {A : Type 0} {x y : TokenFault} (r : Result A TokensError) → r ≡ Err (error.Fault x)
    → r ≡ Err (error.Fault y) → x ≡ y
same_fault r g h = cc

pub same_some : {x y : TokenFault} → Some x ≡ Some y → x ≡ y
same_some h = cc

-- a token that was found spells what it is
pub token_spells : (text : List ℕ) (at n : ℕ) (what : TokenKind) → IsUtf8 (drop at text)
    → front.Lexeme n what ≡ front_of (drop at text)
    → IsToken (slice_range text at (at + n)) what (drop (at + n) text)
token_spells text at n what u e =
    let fits = subst (Fits (drop at text)) (sym e) (front_fits (drop at text) u) in
    let size : n ≡ at + n - at = omega arith in
    subst (λ k. IsToken (take k (drop at text)) what (drop (at + n) text)) size
    (subst (λ l. IsToken (take n (drop at text)) what l) (drop_on at n text) fits.1)
