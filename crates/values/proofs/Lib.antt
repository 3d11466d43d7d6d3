mod AcceptLemmas
mod TableLaws
mod ContentLemmas
mod StartLemmas
mod PartLemmas
