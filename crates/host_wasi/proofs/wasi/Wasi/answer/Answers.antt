-- What came of what is wanted.
use Rattle.host_wasi.proofs.Wanting.{comes_to}
use Rattle.host_wasi.proofs.wasi.Wasi.answer.Goals as goal

pub returns : goal.returns
returns g c =
    rw (c.in_ok-want.ensures.wanted, c.items.ensures, c.items-2.ensures, c.self.view_is) at (comes_to _ c.fulfil.result _ _ c.fulfil.ensures.answered c.fulfil.ensures.begun)
