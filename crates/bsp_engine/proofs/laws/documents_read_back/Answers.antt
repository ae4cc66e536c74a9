use Rattle.bsp_engine.proofs.SameDocument.{documents_read_back as law}
use Rattle.bsp_engine.proofs.laws.documents_read_back.Goals as goal

pub returns : goal.returns
returns g c = law g.C.Catalogue.meaning g.met.C.Catalogue.reads_own_keys g.met.C.Catalogue.keys_apart
