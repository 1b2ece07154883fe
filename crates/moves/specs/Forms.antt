-- The two forms of a pack text.
use Rattle.text.specs.declared.Form.{Form}
use Rattle.text.specs.declared.Form.TheVariants.{One, Two}

-- The form that a text is moved from.
abbrev pub other : Form → Form
other One = Two
other Two = One
