use Rattle.std.proofs.Common.{codes}
use Rattle.database_scripts.specs.Columns.{columns_text}
use Rattle.database_scripts.specs.Files.{file_text}
use Rattle.database_scripts.specs.declared.columns.Form.TheVariants.{Bare, Written}
use Rattle.database_scripts.specs.declared.database.Database.TheVariants.{Sqlite}
use Rattle.database_scripts.specs.Asks.{selected_text}
use Rattle.database_scripts.proofs.Pieces.{on_ok, put_nine}
use Rattle.database_scripts.proofs.ask.put_selected.Goals as goal

pub returns : goal.returns
unfolding selected_text
returns c =
    let columns = c.args.columns.now in
    on_ok c.extend_from_slice-6.result (put_nine c.args.script.now _ _ _ _ _ _ _ _ _ (codes ".output ") (file_text Sqlite c.args.folder.now c.args.number) (codes "\n.print ") (columns_text Bare (codes ",") columns)
    (codes "\nSELECT ") (columns_text Written (codes ", ") columns) (codes " FROM (") c.args.text.now (codes ");\n")
    c.in_ok-extend_from_slice.ensures.ok c.in_ok-put_file.ensures c.in_ok-extend_from_slice-2.ensures.ok c.in_ok-put_columns.ensures c.in_ok-extend_from_slice-3.ensures.ok
    c.in_ok-put_columns-2.ensures c.in_ok-extend_from_slice-4.ensures.ok c.in_ok-extend_from_slice-5.ensures.ok) c.extend_from_slice-6.ensures.ok
