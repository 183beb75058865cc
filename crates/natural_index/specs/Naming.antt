-- Which tables must have a key: those whose rows name bags.
use Rattle.std.specs.Prelude.{◌≡◌, ⊤, List, [], ◌∷◌, cond, filter, flat_map, nat_eq, nat_le, zip}
use Rattle.std.specs.Prelude.{Option, None, Some}
use Rattle.std.specs.Option.{option_map}
use Rattle.nq_model.specs.Meaning.{is_none}
use Rattle.nq_model.specs.NamedRows.{Label}
use Rattle.nq_model.specs.Types.{TypeTree, bag}
use Rattle.nq_model.specs.declared.table.TableShape.{TableShape}
use Rattle.nq_ir.specs.declared.base.Gen.{Gen}
use Rattle.nq_ir.specs.Parts.{slots, element_types}
use Rattle.nq_ir.specs.Spots.{StrandTree}
use Rattle.nq_ir.specs.Trees.{FormTree}
use Rattle.natural_keys.specs.Layouts.{table_key, strands_by_path}
use Rattle.natural_index.specs.declared.fault.NaturalFault.{NaturalFault}
use Rattle.natural_index.specs.declared.fault.NaturalFault.TheVariants as fault

-- the generators of these comprehensions, where elements of this type hold a bag
abbrev pub naming_at : TypeTree → List StrandTree → List Gen
naming_at a ds = cond (nat_eq (slots a) 0) [] (flat_map (λ d. d.gens) ds)

-- the generators whose rows name bags: those of the comprehensions whose elements hold a bag
abbrev pub naming : FormTree → List Gen
naming form = flat_map (λ x. naming_at x.0 x.1) (zip (element_types (bag form.element))
    (strands_by_path form))

-- those whose tables have no key
abbrev pub keyless : List TableShape → List Gen → List Gen
keyless S gens = filter (λ g. is_none (table_key S g.table)) gens

-- the generator with the least number, if there is one
abbrev pub lesser : Gen → Option Gen → Gen
lesser g None = g
lesser g (Some h) = cond (nat_le g.number h.number) g h

-- the one of two, as far as there are any
abbrev pub lesser_of : Option Gen → Option Gen → Option Gen
lesser_of None h = h
lesser_of (Some g) h = Some (lesser g h)

abbrev pub least : List Gen → Option Gen
least [] = None
least (g ∷ gens) = lesser_of (Some g) (least gens)

-- the table of the least generator whose rows name bags and whose table has no key
abbrev pub no_key : List TableShape → FormTree → Option Label
no_key S form = option_map (λ g. g.table) (least (keyless S (naming form)))

-- what a fault says of it
abbrev pub NoKeySays : Option Label → NaturalFault → Type 0
NoKeySays table fault.Memory = ⊤
NoKeySays table (fault.NoKey name) = table ≡ Some name
