-- The index scheme that keys follow.
use Rattle.std.specs.Prelude.{map}
use Rattle.nq_model.specs.Types.{type_tree}
use Rattle.natural_keys.specs.NaturalKeys.{natural_scheme}
use Rattle.natural_keys.specs.declared.index.KeyIndex.{KeyIndex}
use Rattle.natural_keys.specs.declared.natural.NaturalKeys.{NaturalKeys}
use Rattle.stitcher.specs.Schemes.{Scheme}

-- the scheme of keys: a level for each path of its type
abbrev pub keys_scheme : NaturalKeys → Scheme KeyIndex
keys_scheme own =
    natural_scheme (map (λ level. type_tree level.element) own.levels)
    (map (λ level. level.outer) own.levels) (map (λ level. level.inner) own.levels)
