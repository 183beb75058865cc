-- What is read of a printed text is also read of the text and a newline.
use Rattle.std.proofs.Common.{◌≡◌, ℕ, List, [], ◌∷◌, ◌++◌, Option, Some, None, option_and_then, refl, sym, ap, ◌∙◌, subst, append-nil}
use Rattle.std.specs.Str.{IsUtf8}
use Rattle.json.specs.Json.{Json, value, if_last}
use Rattle.json.specs.Lex.{tokens}
use Rattle.json.specs.Print.{print, ArePrintable}
use Rattle.json.specs.Token.{Token}
use Rattle.json.specs.Tree.{json_tokens}
use Rattle.json.proofs.Numbered.{ArePrintableOrBad-tokens, value-HasNumbers}
use Rattle.json.proofs.Printed.Utf8.{IsUtf8-are_ascii}
use Rattle.json.proofs.Printed.Trees.{ArePrintable-json_tokens}
use Rattle.json.proofs.Unique.Spelling.{value-json_tokens_back}
use Rattle.serde_json.specs.Data.{Data}
use Rattle.serde_json.specs.Read.{of_json, read, max_depth}
use Rattle.nq_json.proofs.Lexing.{tokens_line}

abbrev last_of : Option (Json × List Token) → Option Json
last_of read = option_and_then (λ p. if_last p.0 p.1) read

-- a text that is read is one value
one_value : (o : Option (Json × List Token)) (d : Data) → option_and_then of_json (last_of o) ≡ Some d → (j : Json) × (o ≡ Some (j, []))
one_value None d e = cc
one_value (Some (j, [])) d e = (j, refl)
one_value (Some (j, t ∷ ts)) d e = cc

-- its tokens can be printed
printable : (text : List ℕ) (d : Data) → read text ≡ Some d → ArePrintable (tokens text)
printable text d e =
    let (j, is) = one_value (value max_depth (tokens text)) d e in
    let spelled = value-json_tokens_back max_depth (tokens text) [] j is ∙ append-nil (json_tokens j) in
    let numbers = value-HasNumbers max_depth (tokens text) [] j (ArePrintableOrBad-tokens text) is in
    subst ArePrintable (sym spelled) (ArePrintable-json_tokens j numbers)

pub newline_read : (text : List ℕ) (d : Data) → text ≡ print (tokens text) → read text ≡ Some d → read (text ++ 10 ∷ []) ≡ Some d
newline_read text d printed e =
    let same : tokens (text ++ 10 ∷ []) ≡ tokens text =
    ap (λ (l : List ℕ). tokens (l ++ 10 ∷ [])) printed ∙ tokens_line (tokens text) (printable text d e) ∙ ap tokens (sym printed) in
    ap (λ ts. option_and_then of_json (last_of (value max_depth ts))) same ∙ e

pub newline_utf8 : IsUtf8 (10 ∷ [])
newline_utf8 = IsUtf8-are_ascii (10 ∷ []) refl
