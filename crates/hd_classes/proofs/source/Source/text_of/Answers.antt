use Rattle.std.proofs.Common.{◌∙◌, length}
use Rattle.hd_classes.proofs.SearchLemmas.{text-within}
use Rattle.hd_classes.proofs.source.Source.text_of.Goals as goal

pub bytes_of-requires : goal.bytes_of-requires
bytes_of-requires c = text-within (length c.args.self.now.bytes.now) c.args.self.now.records.now.strings c.args.id _ c.requires.within
    (c.in-Some.ensures ∙ c.requires.texts c.args.id)
