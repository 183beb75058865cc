use Rattle.std.proofs.Common.{refl}
use Rattle.nq_execute.proofs.Asks.{text_misfits}
use Rattle.nq_execute.proofs.ask.ask_one.Goals as goal

pub returns-in-Err-clause-tells : goal.returns-in-Err-clause-tells
returns-in-Err-clause-tells g c =
    (refl, text_misfits _ c.args.types.now c.args.text.now _ _ _ c.in-Ok.answer c.in-Err.misfit c.requires.rows c.requires.askable c.in-Ok.ensures.told c.in-Ok.ensures.allowed c.in-Err.ensures.err)
