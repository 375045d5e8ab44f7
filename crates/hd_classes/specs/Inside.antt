-- How names and classes are kept.
use Rattle.hd_classes.specs.declared.classes.Classes.TheInside.{Inside}
use Rattle.hd_classes.specs.Known.{Known}
use Rattle.hd_classes.specs.Links.{IsLinked, views}

abbrev pub known_of : Inside → Known
known_of a = record { texts = a.texts; names = a.names.entries; classes = views a.known.entries; repeated = a.repeated }

abbrev pub AreLinked : Inside → Type 0
AreLinked a = IsLinked a.known.entries
