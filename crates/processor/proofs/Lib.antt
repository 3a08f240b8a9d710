mod Sized
mod Texts
mod GoingBack
mod Arguing
mod Tabled
mod Searched
