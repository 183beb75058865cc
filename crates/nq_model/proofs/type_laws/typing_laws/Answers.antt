use Rattle.nq_model.proofs.Types.{type_eq_Decides, plain_well_formed}
use Rattle.nq_model.proofs.TypeOf.{typed, has_type}
use Rattle.nq_model.proofs.Typing.{one_type, well_formed_type}
use Rattle.nq_model.proofs.FieldOrders.{any_order}
use Rattle.nq_model.proofs.ProperTypes.{ordered_type}
use Rattle.nq_model.proofs.type_laws.typing_laws.Goals as goal

pub returns : goal.returns
returns c = record {
  one = one_type;
  computed = λ schema context t a. (typed schema context t a, has_type schema context t a);
  well_formed = well_formed_type;
  ordered = λ schema context t a proper term all h. ordered_type schema proper context t a all term h;
  any_order = λ schema context fs gs a m d h. (h.0, any_order schema context fs gs h.0 m d h.1, h.2);
  plain_is_well_formed = plain_well_formed;
  equal = type_eq_Decides;
}
