use Rattle.std.proofs.Common.{refl, inr, ◌∙◌, sym}
use Rattle.csv.specs.Reading.{Reached, strip_bom}
use Rattle.table_reader.proofs.records.reader_of.Goals as goal

pub returns : goal.returns
unfolding Reached
returns c =
    let made = c.from_reader.ensures in
    let e = c.flexible.ensures in
    let f = c.has_headers.ensures in
    record {
      trims = rw (e, f) at made.trim ∙ c.new.ensures.trim;
      ready = inr (inr (rw (e, f) at made.has_headers, made.headers));
      config = rw (e, f) at made.config ∙ c.new.ensures.config;
      rest = strip_bom c.args.text.now;
      source = made.source;
      reached = (sym made.state, refl);
    }
