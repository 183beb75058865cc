use Rattle.std.proofs.Common.{◌∙◌, sym, arith}
use Rattle.std.proofs.lemmas.List.Sums.{prefix_len-le-length}
use Rattle.nq_model.specs.SchemaTokens.{is_word_byte, is_comment_byte}
use Rattle.nq_model.specs.QueryTokens.{is_digit}
use Rattle.lexical.proofs.Fronts.{lengths, rest_there, digits_all}
use Rattle.sql_reader.proofs.Fronts.{word_there, number_there}
use Rattle.sql_reader.proofs.front.front_of.Goals as goal

pub overflow_add-result : goal.overflow_add-result
overflow_add-result c =
    let l = lengths c.args.text.now c.args.bytes.now c.args.rest.now c.args.place c.args.first c.requires.there c.requires.parts in
    let short = l.1 in
    let few = prefix_len-le-length is_comment_byte c.args.rest.now in
    let fits = c.requires.fits in
    let size = c.comment_len.ensures in
    omega (arith, short, few, fits, size)

pub overflow_add-word_len : goal.overflow_add-word_len
overflow_add-word_len c =
    let l = lengths c.args.text.now c.args.bytes.now c.args.rest.now c.args.place c.args.first c.requires.there c.requires.parts in
    let short = l.1 in
    let few = prefix_len-le-length is_word_byte c.args.rest.now in
    let fits = c.requires.fits in
    let size = c.word_len.ensures in
    omega (arith, short, few, fits, size)

pub overflow_add-digits_len : goal.overflow_add-digits_len
overflow_add-digits_len c =
    let l = lengths c.args.text.now c.args.bytes.now c.args.rest.now c.args.place c.args.first c.requires.there c.requires.parts in
    let short = l.1 in
    let few = prefix_len-le-length is_digit c.args.rest.now in
    let fits = c.requires.fits in
    let size = c.digits_len.ensures in
    omega (arith, short, few, fits, size)

pub number_front-requires-clause-within :
    goal.number_front-requires-clause-within
number_front-requires-clause-within c =
    let l = lengths c.args.text.now c.args.bytes.now c.args.rest.now c.args.place c.args.first c.requires.there c.requires.parts in
    let long = l.0 in
    let few = prefix_len-le-length is_digit c.args.rest.now in
    let size = c.digits_len.ensures in
    omega (arith, long, few, size)

pub number_front-requires-clause-digits :
    goal.number_front-requires-clause-digits
number_front-requires-clause-digits c =
    digits_all c.args.first c.args.rest.now c.args.bytes.now c.digits_len.result c.requires.parts (sym c.is_digit.ensures ∙ c.if-is_digit.true) c.digits_len.ensures

pub name_front-requires-clause-rest : goal.name_front-requires-clause-rest
name_front-requires-clause-rest c =
    rest_there c.args.text.now c.args.bytes.now c.args.rest.now c.args.place c.args.first c.requires.there c.requires.parts

pub literal_front-requires-clause-rest : goal.literal_front-requires-clause-rest
literal_front-requires-clause-rest c =
    rest_there c.args.text.now c.args.bytes.now c.args.rest.now c.args.place c.args.first c.requires.there c.requires.parts

pub returns-then-begins_word : goal.returns-then-begins_word
returns-then-begins_word c =
    c.keyword_front.ensures
    ∙ word_there c.args.place c.args.first c.args.rest.now c.args.bytes.now c.word_len.result c.requires.parts (sym c.is_white.ensures ∙ c.if-is_white.false) (sym c.begins_comment.ensures ∙ c.if-begins_comment.false) (sym c.begins_word.ensures ∙ c.if-begins_word.true) c.word_len.ensures

pub returns-then-is_digit : goal.returns-then-is_digit
returns-then-is_digit c =
    c.number_front.ensures
    ∙ number_there c.args.place c.args.first c.args.rest.now c.args.bytes.now c.digits_len.result c.requires.parts (sym c.is_white.ensures ∙ c.if-is_white.false) (sym c.begins_comment.ensures ∙ c.if-begins_comment.false) (sym c.begins_word.ensures ∙ c.if-begins_word.false) (sym c.is_digit.ensures ∙ c.if-is_digit.true) c.digits_len.ensures
