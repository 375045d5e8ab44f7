-- How chains and layouts are kept: by the linked classes, and a number.
use Rattle.std.specs.Prelude.{ℕ, List}
use Rattle.hd_terms.specs.Classes.{LayoutField}
use Rattle.hd_classes.specs.declared.chain.Chain.TheInside as chains
use Rattle.hd_classes.specs.declared.layout.Layout.TheInside as layouts
use Rattle.hd_classes.specs.Links.{IsLinked, Declares, numbered, views}

abbrev pub ids_of : chains.Inside → List ℕ
ids_of a = (numbered (views a.classes.now.entries) a.number).chain

abbrev pub IsChainKept : chains.Inside → Type 0
IsChainKept a = IsLinked a.classes.now.entries

abbrev pub fields_of : layouts.Inside → List LayoutField
fields_of a = (numbered (views a.classes.now.entries) a.number).layout

pub record IsLayoutKept (a : layouts.Inside) : Type 0 where
  pub linked : IsLinked a.classes.now.entries
  pub declares : Declares a.classes.now.entries a.number
