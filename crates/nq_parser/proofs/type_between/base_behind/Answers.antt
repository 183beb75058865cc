use Rattle.std.proofs.Common.{subst}
use Rattle.nq_model.specs.QueryGrammar.{TBase}
use Rattle.nq_parser.specs.Forms.{around_view}
use Rattle.nq_parser.specs.Machine.{after_type}
use Rattle.nq_parser.specs.States.{Leads}
use Rattle.nq_parser.specs.TypeStacks.{type_frames}
use Rattle.query_syntax.proofs.Views.{type_base}
use Rattle.query_syntax.specs.Symbols.{token_view}
use Rattle.nq_parser.proofs.type_between.base_behind.Goals as goal

pub returns-in_ok-push-in-Base : goal.returns-in_ok-push-in-Base
returns-in_ok-push-in-Base c k =
    rw c.in-Base.is
    (subst (λ j. Leads c.after_type.result k (after_type j (TBase c.args.place c.in-Base.base) (around_view c.args.ty.around) k (token_view c.args.token)))
    c.in_ok-push-in-Base.ensures
    (subst (λ t. Leads c.after_type.result k (after_type (type_frames c.push.new.self.levels) t (around_view c.args.ty.around) k (token_view c.args.token)))
    (type_base c.args.place c.in-Base.base)
    (c.after_type.ensures k)))
