-- How punctuation is written. This project's own, after HipHop.js.
use Rattle.std.specs.Prelude.{ℕ, List, codes}
use Rattle.module_token.specs.declared.punct.Punct.{Punct}
use Rattle.module_token.specs.declared.punct.Punct.TheVariants as p

abbrev pub punct_text : Punct → List ℕ
punct_text p.LeftParen = codes "("
punct_text p.RightParen = codes ")"
punct_text p.LeftBrace = codes "{"
punct_text p.RightBrace = codes "}"
punct_text p.Comma = codes ","
punct_text p.Semicolon = codes ";"
punct_text p.Colon = codes ":"
punct_text p.Dot = codes "."
punct_text p.Equal = codes "="
punct_text p.Question = codes "?"
punct_text p.Plus = codes "+"
punct_text p.Minus = codes "-"
punct_text p.Star = codes "*"
punct_text p.Slash = codes "/"
punct_text p.Percent = codes "%"
punct_text p.Not = codes "!"
punct_text p.Less = codes "<"
punct_text p.Greater = codes ">"
punct_text p.EqualEqual = codes "=="
punct_text p.NotEqual = codes "!="
punct_text p.LessEqual = codes "<="
punct_text p.GreaterEqual = codes ">="
punct_text p.And = codes "&&"
punct_text p.Or = codes "||"
