-- The words for the layers.
use Rattle.std.specs.Prelude.{ℕ, List, codes}
use Rattle.refusal.specs.declared.Layer.TheVariants.{Reader, Check, Engine, Maker}
use Rattle.refusal.specs.declared.Layer.{Layer}

-- The word for a layer.
abbrev pub layer_name : Layer → List ℕ
layer_name Reader = codes "reader"
layer_name Check = codes "check"
layer_name Engine = codes "engine"
layer_name Maker = codes "maker"
