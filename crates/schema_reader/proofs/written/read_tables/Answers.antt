use Rattle.std.proofs.lemmas.List.{take_rest}
use Rattle.std.proofs.lemmas.Result.{err_from_is_err_and}
use Rattle.nq_model.specs.SchemaTokens.{token}
use Rattle.schema_reader.specs.Fronts.{symbol_view}
use Rattle.schema_reader.specs.Reading.{reader_view}
use Rattle.schema_reader.proofs.Progress.{read_gap, read_token, read_stray, ends_writes, steps_wrong, front_bounds}
use Rattle.schema_reader.proofs.written.read_tables.Goals as goal

pub returns-in-End : goal.returns-in-End
returns-in-End c =
    let h = rw take_rest at c.in-End.ensures in
    ends_writes c.finish.result c.args.text.now c.loop-reader.at (reader_view c.loop-reader.reader) c.loop-reader.invariant.read h c.finish.ensures

pub returns-in-Stray : goal.returns-in-Stray
returns-in-Stray c =
    let h = rw take_rest at c.in-Stray.ensures in
    read_stray c.args.text.now c.loop-reader.at (reader_view c.loop-reader.reader) c.loop-reader.invariant.read h.0 h.1

pub loop-reader-preserved-in-Gap : goal.loop-reader-preserved-in-Gap
loop-reader-preserved-in-Gap c =
    let h = rw take_rest at c.in-Gap.ensures in
    let b = front_bounds c.args.text.now c.loop-reader.at c.in-Gap.len (reader_view c.loop-reader.reader) c.loop-reader.invariant.read _ h c.loop-reader.invariant.within in
    record {
      within = b.1;
      read = read_gap c.args.text.now c.loop-reader.at c.in-Gap.len (reader_view c.loop-reader.reader) c.loop-reader.invariant.read h;
    }

pub returns-in_err-take-in-Token : goal.returns-in_err-take-in-Token
returns-in_err-take-in-Token c =
    let p = err_from_is_err_and c.from_residual.result c.from_residual.ensures.1 in
    let h = rw take_rest at c.in-Token.ensures in
    rw (p.1, p.2)
    (steps_wrong c.in_err-take-in-Token.field-0.0 c.args.text.now c.loop-reader.at c.in-Token.len (reader_view c.loop-reader.reader) (reader_view c.take.new.self)
    (token c.loop-reader.at (symbol_view c.in-Token.symbol)) c.loop-reader.invariant.read h c.in_err-take-in-Token.ensures)

pub loop-reader-preserved : goal.loop-reader-preserved
loop-reader-preserved c =
    let h = rw take_rest at c.in-Token.ensures in
    let b = front_bounds c.args.text.now c.loop-reader.at c.in-Token.len (reader_view c.loop-reader.reader) c.loop-reader.invariant.read _ h c.loop-reader.invariant.within in
    record {
      within = b.1;
      read = read_token c.args.text.now c.loop-reader.at c.in-Token.len (reader_view c.loop-reader.reader) c.loop-reader.invariant.read
          (token c.loop-reader.at (symbol_view c.in-Token.symbol)) (reader_view c.take.new.self) h c.in_ok-take-in-Token.ensures;
    }
