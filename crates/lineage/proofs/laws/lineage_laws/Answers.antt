use Rattle.lineage.proofs.Sameness.{forms_same}
use Rattle.lineage.proofs.Whole.{forms_tell, traces_told, text_same}
use Rattle.lineage.proofs.laws.lineage_laws.Goals as goal

pub returns : goal.returns
returns c = record {
  forms = λ schema form w ts v s. forms_tell schema form w ts v s;
  traces = λ schema element term proper free plain good closed typed w tables held v s. traces_told
      c.trace_laws.ensures.forms schema element term proper free plain good closed typed w tables
      held v s;
  same = λ es form v w s. forms_same es form v w s;
  text = λ v w s. text_same v w s;
}
