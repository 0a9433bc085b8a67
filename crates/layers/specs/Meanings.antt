-- Each layer's struct as what it means, over the meaning of the set below.
use Rattle.charset.specs.declared.CharacterSet as set
use Rattle.charset.specs.Meaning.{Meaning}
use Rattle.charset.specs.Sets.{set_of}
use Rattle.layers.specs.declared.controls.Controls.{Controls}
use Rattle.layers.specs.declared.recoded.Recoded.{Recoded}
use Rattle.layers.specs.declared.recoding.ByteForm as form
use Rattle.layers.specs.declared.subrepertoire.Subrepertoire.{Subrepertoire}
use Rattle.layers.specs.Layers.{sub, controls}
use Rattle.layers.specs.Recoding.{recoded}

module _ {S : Type 0} (g : set.Ghosts S) where
  abbrev pub meaning_of_recoded : {F : Type 0} → form.Ghosts F → Recoded F S → Meaning
  meaning_of_recoded f p = recoded (f.recoding p.form) (set_of g p.below)

  abbrev pub meaning_of_subrepertoire : Subrepertoire S → Meaning
  meaning_of_subrepertoire p = sub p.list (set_of g p.below)

  abbrev pub meaning_of_controls : Controls S → Meaning
  meaning_of_controls p = controls p.chosen (set_of g p.below)
